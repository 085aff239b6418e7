use Rattle.std.proofs.Common.{length}
use Rattle.trace_plain.specs.View.{trace_of}
use Rattle.trace_read.specs.Gathering.{opens_of}
use Rattle.trace_read.proofs.CloseLemmas.{Closing}
use Rattle.trace_read.proofs.stack.close.Given as goal

-- the open traces and the whole one come to the same
abbrev pub invariant-loop-outer : goal.invariant-loop-outer
invariant-loop-outer l = Closing l.initial.scope l.scope (opens_of l.initial.stack) (opens_of l.stack) (trace_of l.initial.whole) (trace_of l.whole)

abbrev pub decreases-loop-outer : goal.decreases-loop-outer
decreases-loop-outer l = length (opens_of l.stack)
