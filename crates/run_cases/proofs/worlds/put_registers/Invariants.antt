use Rattle.std.proofs.Common.{◌≡◌}
use Rattle.state_core.specs.State.{widths_of}
use Rattle.run_cases.proofs.worlds.put_registers.Given as goal

abbrev pub invariant-loop-name : goal.invariant-loop-name
invariant-loop-name l =
    (goal.iterator-loop-name).can_next l.name-iterator × (goal.iterator-loop-name).is_finite l.name-iterator × (widths_of l.world.state ≡ widths_of l.fn.world.state)
