use Rattle.std.proofs.Common.{◌≡◌, ◌≤◌, length, take}
use Rattle.trace_read.proofs.scope.cut_back.Given as goal

-- those that are left are the first ones
abbrev pub invariant-loop-scope : goal.invariant-loop-scope
invariant-loop-scope l = (l.scope ≡ take (length l.scope) l.initial.scope) × (l.count ≤ length l.scope) × (length l.scope ≤ length l.initial.scope)

abbrev pub decreases-loop-scope : goal.decreases-loop-scope
decreases-loop-scope l = length l.scope
