-- Laws of devices.
use Rattle.std.specs.Prelude.{◌≡◌, ◌↔◌, ℕ, ◌+◌, ◌<◌, ◌≤◌, List, [], All, AllPairs, None}
use Rattle.device_spec.specs.Checked.{devices_fault}
use Rattle.device_spec.specs.Devices.{PlainDevice, PlainTransition}

-- an address of a device
abbrev pub IsIn : PlainDevice → ℕ → Type 0
IsIn d a = (d.lo ≤ a) × (a < d.hi)

-- no address lies in both ranges
abbrev pub AreApart : PlainDevice → PlainDevice → Type 0
AreApart d e = (a : ℕ) → IsIn d a → IsIn e a → ⊥

-- a transition lies in the device's range, and leads from a state to a state
pub record IsTransitionOf (d : PlainDevice) (t : PlainTransition) : Type 0 where
  pub begins : d.lo ≤ t.addr
  pub ends : t.addr + t.bytes ≤ d.hi
  pub from : t.from < d.states
  pub to : t.to < d.states

-- a device with an address and with such transitions
pub record IsDevice (d : PlainDevice) : Type 0 where
  pub range : d.lo < d.hi
  pub transitions : All (IsTransitionOf d) d.transitions

-- devices that stand together
pub record AreDevices (ds : List PlainDevice) : Type 0 where
  pub each : All IsDevice ds
  pub apart : AllPairs AreApart ds

-- devices are accepted exactly where they are such
abbrev pub AcceptedExactly : Type 0
AcceptedExactly = (ds : List PlainDevice) → (devices_fault [] ds ≡ None) ↔ AreDevices ds
