use Rattle.std.specs.Prelude.{codes}
use Rattle.std.proofs.lemmas.Result.{on_ok_weaker}
use Rattle.sail_names.specs.declared.things.Given.TheVariants as given
use Rattle.sail_names.specs.Things.{given_name}
use Rattle.sail_names.proofs.MapLemmas.{five}
use Rattle.sail_names.proofs.prelude.writes.Goals as goal

pub returns : goal.returns
returns c =
    on_ok_weaker c.give-5.result
    (five (given_name (codes "mem_write_1") (given.Write 1)) (given_name (codes "mem_write_2") (given.Write 2)) (given_name (codes "mem_write_4") (given.Write 4)) (given_name (codes "mem_write_8") (given.Write 8)) (given_name (codes "mem_write_16") (given.Write 16))
    c.args.things.now c.give.new.things c.give-2.new.things c.give-3.new.things c.give-4.new.things c.give-5.new.things
    c.in_ok-give.ensures c.in_ok-give-2.ensures c.in_ok-give-3.ensures c.in_ok-give-4.ensures)
    c.give-5.ensures
