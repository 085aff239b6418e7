use Rattle.std.proofs.lemmas.Result.{on_ok_weaker}
use Rattle.sail_names.specs.Things.{given_tests, given_shifts, given_divisions, given_reads, given_writes, prelude_things}
use Rattle.sail_names.proofs.MapLemmas.{five_lists}
use Rattle.sail_names.proofs.prelude.put_prelude.Goals as goal

pub returns : goal.returns
unfolding prelude_things
returns c =
    on_ok_weaker c.writes.result
    (five_lists given_tests given_shifts given_divisions given_reads given_writes
    c.args.things.now c.tests.new.things c.shifts.new.things c.divisions.new.things c.reads.new.things c.writes.new.things
    c.in_ok-tests.ensures c.in_ok-shifts.ensures c.in_ok-divisions.ensures c.in_ok-reads.ensures)
    c.writes.ensures
