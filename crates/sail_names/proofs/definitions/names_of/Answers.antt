use Rattle.std.proofs.Common.{◌≡◌, sym, map, rules}
use Rattle.sail_syntax.specs.View.{definition_of}
use Rattle.sail_names.specs.Things.{prelude_things, things_from, things_of}
use Rattle.sail_names.proofs.MapLemmas.{whole, nothing_at}
use Rattle.sail_names.proofs.definitions.names_of.Goals as goal

pub returns : goal.returns
unfolding things_of
returns c =
    let same : c.as_slice.result.now ≡ c.args.program.now.defs = search rules in
    whole prelude_things (things_from (map definition_of c.args.program.now.defs) 0 0 0) c.new-things.result c.put_prelude.new.things c.declare_all.new.things
    (λ x. nothing_at x c.new-things.result c.new-things.ensures.empty) c.in_ok-put_prelude.ensures
    (rw (sym same) c.in_ok-declare_all.ensures)
