-- Devices as plain data, and what they make of an event.
use Rattle.std.specs.Prelude.{◌≡◌, ℕ, ◌*◌, ◌<◌, ◌≤◌, Bool, true, ◌&&◌, ◌==◌, List, [], ◌∷◌, Option, Some, None, IfSome, filter, find, map, slice_get, codes}
use Rattle.std.specs.Option.{option_map}
use Rattle.std.specs.Bool.{beq}
use Rattle.bv_bits.specs.declared.Bits.{Bits}
use Rattle.state_core.specs.declared.kinds.DevEvent.{DevEvent}
use Rattle.state_core.specs.declared.kinds.Range.{Range}
use Rattle.state_core.specs.Devices.{Taken, goes_to, no_transition, off, Transitions}
use Rattle.term_tree.specs.Terms.{Text, Tree, IsTyped, width_of}
use Rattle.term_tree.specs.Values as values
use Rattle.term_tree.specs.Values.{Values, values_of}
use Rattle.term_tree.specs.Written.{one_pair}

-- what leads a device from one state to another
pub record PlainTransition : Type 0 where
  pub from : ℕ
  -- whether the event is a write; else it is a read
  pub write : Bool
  pub addr : ℕ
  pub bytes : ℕ
  -- the condition on the variable `v`; none always holds
  pub when : Option Tree
  pub to : ℕ

-- a device: its range from `lo` up to below `hi`, how many states it has, and its transitions in order
pub record PlainDevice : Type 0 where
  pub name : Text
  pub lo : ℕ
  pub hi : ℕ
  pub states : ℕ
  pub transitions : List PlainTransition

-- a transition as it is read: of 1 to 16 bytes, with a condition of one bit
pub record IsTransition (t : PlainTransition) : Type 0 where
  pub some : 0 < t.bytes
  pub few : t.bytes ≤ 16
  pub condition : IfSome t.when (λ c. IsTyped c × (width_of c ≡ 1))

-- the transition leaves the state by an event of this direction, address and number of bytes
abbrev pub is_candidate : ℕ → DevEvent → PlainTransition → Bool
is_candidate q e t = t.from == q && (beq t.write e.write && (t.addr == e.addr && t.bytes == e.bytes))

-- the variable `v` of so many bytes has this value, and each other one is 0
abbrev pub told : ℕ → ℕ → Values
told bytes value = values_of (one_pair (codes "v") (record { width = 8 * bytes; value = value }))

-- a condition holds of the value of so many bytes
abbrev pub condition_holds : ℕ → ℕ → Option Tree → Bool
condition_holds bytes value None = true
condition_holds bytes value (Some c) = (values.value (told bytes value) c).value == 1

-- the condition of a transition holds of a value
abbrev pub holds : ℕ → PlainTransition → Bool
holds value t = condition_holds t.bytes value t.when

-- those of some transitions that an event may take from a state
abbrev pub candidates : List PlainTransition → ℕ → DevEvent → List PlainTransition
candidates ts q e = filter (is_candidate q e) ts

-- the first one whose condition holds of the value
abbrev pub first_holding : ℕ → List PlainTransition → Option PlainTransition
first_holding value ts = find (holds value) ts

-- what is made of the candidates: none, or the first that holds, or none that holds
abbrev pub chosen : Option PlainTransition → Taken
chosen None = off
chosen (Some t) = goes_to t.to

-- what is made of an event with these candidates
abbrev pub taken_among : ℕ → List PlainTransition → Taken
taken_among value [] = no_transition
taken_among value (t ∷ ts) = chosen (first_holding value (t ∷ ts))

-- what a device makes of an event in a state
abbrev pub taken : PlainDevice → ℕ → DevEvent → Taken
taken d q e = taken_among e.value (candidates d.transitions q e)

-- the state that this leads to
abbrev pub led_to : Taken → Option ℕ
led_to (goes_to q) = Some q
led_to no_transition = None
led_to off = None

-- the state that an event leads to by some transitions, if it is taken
unfoldable pub next_by : List PlainTransition → ℕ → DevEvent → Option ℕ
next_by ts q e = led_to (taken_among e.value (candidates ts q e))

-- the state that an event leads to, if it is taken
abbrev pub next_of : PlainDevice → ℕ → DevEvent → Option ℕ
next_of d q e = next_by d.transitions q e

-- ---- all devices

-- the ranges of devices, by their numbers
abbrev pub ranges_of : List PlainDevice → List Range
ranges_of ds = map (λ d. record { lo = d.lo; hi = d.hi }) ds

-- what a device that is there makes of an event
abbrev pub taken_if : Option PlainDevice → ℕ → DevEvent → Taken
taken_if None q e = no_transition
taken_if (Some d) q e = taken d q e

-- what the devices make of events, each by its number
abbrev pub transitions_of : List PlainDevice → Transitions
transitions_of ds = λ number q e. taken_if (slice_get ds number) q e
