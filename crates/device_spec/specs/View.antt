-- The code's devices as plain data.
use Rattle.std.specs.Prelude.{map}
use Rattle.std.specs.Option.{option_map}
use Rattle.device_spec.specs.declared.device.DevSpec.{DevSpec}
use Rattle.device_spec.specs.declared.device.Transition.{Transition}
use Rattle.term_tree.specs.View.{tree}
use Rattle.device_spec.specs.Devices.{PlainDevice, PlainTransition}

-- a transition
abbrev pub transition_of : Transition → PlainTransition
transition_of t = record { from = t.from; write = t.write; addr = t.addr; bytes = t.bytes; when = option_map tree t.when; to = t.to }

-- a device
abbrev pub device_of : DevSpec → PlainDevice
device_of d = record { name = d.name; lo = d.lo; hi = d.hi; states = d.states; transitions = map transition_of d.transitions }
