use Rattle.std.proofs.Common.{◌≡◌, subst, rules, Some, None}
use Rattle.std.specs.BTreeMap.{UpdatesBy}
use Rattle.std.specs.Cmp.Lexicographic.{slice_cmp}
use Rattle.std.specs.Ordering.{nat_cmp}
use Rattle.type_names.specs.Places.{place_at}
use Rattle.type_names.proofs.PlaceLemmas.{kept, isnt_there}
use Rattle.type_names.proofs.places.keep_first.Goals as goal

pub returns-clause-kept : goal.returns-clause-kept
returns-clause-kept c =
    let items : c.extend_from_slice.new.self.items ≡ c.args.name.now = search rules in
    let none : place_at c.args.name.now c.args.places.now ≡ None = isnt_there (place_at c.args.name.now c.args.places.now) (search rules) in
    kept c.args.places.now c.insert.new.self c.args.name.now c.args.place none
    (subst (λ t. UpdatesBy (λ x y. slice_cmp nat_cmp x.items y.items) (λ k. slice_cmp nat_cmp t k.items) c.args.places.now c.insert.new.self (Some c.args.place)) items c.in_ok-insert.ensures.updates)
