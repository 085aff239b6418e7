use Rattle.std.proofs.Common.{◌≡◌, subst, rules, Some, None}
use Rattle.std.specs.BTreeMap.{UpdatesBy}
use Rattle.std.specs.Cmp.Lexicographic.{slice_cmp}
use Rattle.std.specs.Ordering.{nat_cmp}
use Rattle.sail_names.specs.Map.{thing_at}
use Rattle.sail_names.proofs.MapLemmas.{kept, isnt_there}
use Rattle.sail_names.proofs.map.keep_first.Goals as goal

pub returns : goal.returns
returns c =
    let items : c.extend_from_slice.new.self.items ≡ c.args.name.now = search rules in
    let none : thing_at c.args.name.now c.args.things.now ≡ None = isnt_there (thing_at c.args.name.now c.args.things.now) (search rules) in
    kept c.args.things.now c.insert.new.self c.args.name.now c.args.thing none
    (subst (λ t. UpdatesBy (λ x y. slice_cmp nat_cmp x.items y.items) (λ k. slice_cmp nat_cmp t k.items) c.args.things.now c.insert.new.self (Some c.args.thing)) items c.in_ok-insert.ensures.updates)
