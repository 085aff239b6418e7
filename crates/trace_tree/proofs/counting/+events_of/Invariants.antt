use Rattle.std.proofs.Common.{◌≡◌, ◌+◌, [], map, drop}
use Rattle.trace_plain.specs.Trace.{size, all_size}
use Rattle.trace_plain.specs.View.{traces}
use Rattle.trace_tree.specs.View.{plain_in}
use Rattle.trace_tree.proofs.counting.+events_of.Given as goal

abbrev pub decreases-events_of : goal.decreases-events_of
decreases-events_of l = goal.size-events_of l

-- what is counted and what is left are the whole
abbrev pub invariant-loop-child : goal.invariant-loop-child
invariant-loop-child l = l.total + all_size (traces (map (plain_in []) (drop l.child-index l.children))) ≡ size (plain_in [] l.trace)
