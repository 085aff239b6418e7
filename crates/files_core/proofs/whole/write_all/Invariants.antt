use Rattle.std.proofs.Common.{◌≤◌, length}
use Rattle.files_core.specs.Writes.{IsWrittenUpTo}
use Rattle.files_core.proofs.whole.write_all.Given as goal

abbrev pub invariant-loop-rest : goal.invariant-loop-rest
invariant-loop-rest g l = record {
  written : IsWrittenUpTo (g.S.Sink.bytes l.fn.out) l.text l.rest (g.S.Sink.bytes l.out);
  later : g.S.Sink.faults l.fn.out ≤ g.S.Sink.faults l.out;
}

abbrev pub decreases-loop-rest : goal.decreases-loop-rest
decreases-loop-rest g l = length l.rest
