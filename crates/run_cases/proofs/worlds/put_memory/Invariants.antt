use Rattle.std.proofs.Common.{◌≡◌}
use Rattle.state_core.specs.State.{widths_of}
use Rattle.run_cases.proofs.worlds.put_memory.Given as goal

abbrev pub invariant-loop-at : goal.invariant-loop-at
invariant-loop-at l = (goal.iterator-loop-at).can_next l.at-iterator × (goal.iterator-loop-at).is_finite l.at-iterator × (widths_of l.state ≡ widths_of l.fn.state)
