use Rattle.std.proofs.Common.{◌≡◌, map, drop}
use Rattle.device_spec.specs.Devices.{next_by}
use Rattle.device_spec.specs.View.{transition_of}
use Rattle.device_spec.proofs.event.next_by.Given as goal

-- the first transition that is taken is looked for in what is left
abbrev pub invariant-loop-transition : goal.invariant-loop-transition
invariant-loop-transition l = next_by (map transition_of (drop l.transition-index l.transitions)) l.q l.event ≡ next_by (map transition_of l.transitions) l.q l.event
