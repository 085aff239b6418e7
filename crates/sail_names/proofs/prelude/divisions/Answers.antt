use Rattle.std.specs.Prelude.{codes}
use Rattle.std.proofs.lemmas.Result.{on_ok_weaker}
use Rattle.sail_names.specs.declared.things.Given.TheVariants as given
use Rattle.sail_names.specs.Things.{given_name}
use Rattle.sail_names.proofs.MapLemmas.{four}
use Rattle.sail_names.proofs.prelude.divisions.Goals as goal

pub returns : goal.returns
returns c =
    on_ok_weaker c.give-4.result
    (four (given_name (codes "div_u") given.DivU) (given_name (codes "rem_u") given.RemU) (given_name (codes "div_s") given.DivS) (given_name (codes "rem_s") given.RemS)
    c.args.things.now c.give.new.things c.give-2.new.things c.give-3.new.things c.give-4.new.things
    c.in_ok-give.ensures c.in_ok-give-2.ensures c.in_ok-give-3.ensures)
    c.give-4.ensures
