use Rattle.std.specs.Prelude.{codes}
use Rattle.std.proofs.lemmas.Result.{on_ok_weaker}
use Rattle.sail_names.specs.declared.things.Given.TheVariants as given
use Rattle.sail_names.specs.Things.{given_name}
use Rattle.sail_names.proofs.MapLemmas.{three}
use Rattle.sail_names.proofs.prelude.tests.Goals as goal

pub returns : goal.returns
returns c =
    on_ok_weaker c.give-3.result
    (three (given_name (codes "not") given.Not) (given_name (codes "lt_u") given.LtU) (given_name (codes "lt_s") given.LtS)
    c.args.things.now c.give.new.things c.give-2.new.things c.give-3.new.things
    c.in_ok-give.ensures c.in_ok-give-2.ensures)
    c.give-3.ensures
