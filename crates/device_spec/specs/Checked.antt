-- The first fault of devices.
use Rattle.std.specs.Prelude.{ℕ, ◌+◌, Bool, ◌&&◌, if◌then◌else◌, nat_le, nat_lt, List, [], ◌∷◌, ◌++◌, Option, Some, None, Result, Ok, Err}
use Rattle.std.specs.List.{list_any}
use Rattle.device_spec.specs.declared.device.DevFault.{DevFault}
use Rattle.device_spec.specs.declared.device.DevFault.TheVariants as fault
use Rattle.device_spec.specs.Devices.{PlainDevice, PlainTransition}

-- the first of two faults
abbrev pub before : Option DevFault → Option DevFault → Option DevFault
before None later = later
before (Some f) later = Some f

-- what is answered
abbrev pub answer : Option DevFault → Result (Unit {0}) DevFault
answer None = Ok tt
answer (Some f) = Err f

-- two ranges, none of which is empty, share an address
abbrev pub overlaps : PlainDevice → PlainDevice → Bool
overlaps d e = nat_lt d.lo e.hi && nat_lt e.lo d.hi

-- the bytes of a transition lie in the device's range
abbrev pub is_inside : PlainDevice → PlainTransition → Bool
is_inside d t = nat_le d.lo t.addr && nat_le (t.addr + t.bytes) d.hi

-- a state that isn't below so many
abbrev pub state_fault : ℕ → ℕ → Option DevFault
state_fault states q = if nat_lt q states then None else Some (fault.BadState q)

-- a transition: its place, then the state that it leaves, then the one that it leads to
abbrev pub transition_fault : PlainDevice → PlainTransition → Option DevFault
transition_fault d t =
    if is_inside d t then before (state_fault d.states t.from) (state_fault d.states t.to) else Some fault.BadRange

-- transitions in order
abbrev pub transitions_fault : PlainDevice → List PlainTransition → Option DevFault
transitions_fault d [] = None
transitions_fault d (t ∷ ts) = before (transition_fault d t) (transitions_fault d ts)

-- a device behind earlier ones: its range, whether an earlier one overlaps it, then its transitions
abbrev pub device_fault : List PlainDevice → PlainDevice → Option DevFault
device_fault earlier d =
    if nat_lt d.lo d.hi then (if list_any (overlaps d) earlier then Some fault.BadRange else transitions_fault d d.transitions)
    else Some fault.BadRange

-- devices in order, behind earlier ones
abbrev pub devices_fault : List PlainDevice → List PlainDevice → Option DevFault
devices_fault earlier [] = None
devices_fault earlier (d ∷ ds) = before (device_fault earlier d) (devices_fault (earlier ++ d ∷ []) ds)
