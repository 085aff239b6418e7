use Rattle.std.proofs.Common.{arith}
use Rattle.files_core.proofs.WholeLemmas.{written_more}
use Rattle.files_core.proofs.whole.write_all.Goals as goal

pub loop-rest-preserved : goal.loop-rest-preserved
loop-rest-preserved g c = record {
  written = written_more _ _ _ _ _ _ c.loop-rest.invariant.written c.in-Took.ensures.answer.2;
  later = omega (arith, c.loop-rest.invariant.later, c.in-Took.ensures.faults);
}
