use Rattle.std.proofs.Common.{◌≡◌, map, drop}
use Rattle.device_spec.specs.Checked.{transitions_fault}
use Rattle.device_spec.specs.View.{device_of, transition_of}
use Rattle.device_spec.proofs.check.check_transitions.Given as goal

-- the first fault is that of what is left
abbrev pub invariant-loop-transition : goal.invariant-loop-transition
invariant-loop-transition l =
    transitions_fault (device_of l.dev) (map transition_of (drop l.transition-index l.dev.transitions)) ≡ transitions_fault (device_of l.dev) (map transition_of l.dev.transitions)
