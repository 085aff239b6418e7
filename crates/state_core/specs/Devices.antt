-- Devices as numbered automata, and what they make of a list of events.
use Rattle.std.specs.Prelude.{◌≢◌, ℕ, suc, Bool, if◌then◌else◌, nat_eq, List, [], ◌∷◌, Option, Some, None}
use Rattle.std.specs.List.{position}
use Rattle.state_core.specs.declared.kinds.DevEvent.{DevEvent}
use Rattle.state_core.specs.declared.kinds.Range.{Range}
use Rattle.state_core.specs.Memory.{lies_in}

-- what a device does with an event
pub data Taken : Type 0 where
  -- the first candidate whose condition holds leads to this state
  goes_to : (q : ℕ) → Taken
  -- no transition has the present state, the direction, the address and the byte count: there is no candidate
  no_transition : Taken
  -- there are candidates, and the condition of none holds
  off : Taken

-- the transitions of each device: by its number, its state and an event
abbrev pub Transitions : Type 0
Transitions = ℕ → ℕ → DevEvent → Taken

-- what the devices make of a list of events, which are counted from 0
pub data Judged : Type 0 where
  -- all are taken, and these are the last states
  all_taken : (states : ℕ → ℕ) → Judged
  -- event i has no candidate
  no_candidate : (i : ℕ) → Judged
  -- event i is a write, and no candidate of it holds
  write_off : (i : ℕ) → Judged
  -- event i is a read, and no candidate of it holds: the answer isn't one that the device allows
  read_off : (i : ℕ) → Judged

-- the number of the device in whose range the n bytes lie
abbrev pub device_at : List Range → ℕ → ℕ → Option ℕ
device_at ranges at n = position (lies_in at n) ranges

-- the states with one of them changed
abbrev pub with_state : (ℕ → ℕ) → ℕ → ℕ → ℕ → ℕ
with_state states d q e = if nat_eq e d then q else states e

-- event i, and what comes after it
abbrev pub on_taken : Taken → Bool → ℕ → (ℕ → Judged) → Judged
on_taken (goes_to q) write i rest = rest q
on_taken no_transition write i rest = no_candidate i
on_taken off write i rest = if write then write_off i else read_off i

-- the device of event i, and what comes after
abbrev pub on_device : Option ℕ → ℕ → (ℕ → Judged) → Judged
on_device None i rest = no_candidate i
on_device (Some d) i rest = rest d

-- events of which the first is event i, from these states of the devices
abbrev pub judge_from : Transitions → List Range → ℕ → (ℕ → ℕ) → List DevEvent → Judged
judge_from next ranges i states [] = all_taken states
judge_from next ranges i states (e ∷ events) =
    on_device (device_at ranges e.addr e.bytes) i (λ d. on_taken (next d (states d) e) e.write i (λ q. judge_from next ranges (suc i) (with_state states d q) events))

-- a list of events, from these states of the devices
abbrev pub judge : Transitions → List Range → (ℕ → ℕ) → List DevEvent → Judged
judge next ranges states events = judge_from next ranges 0 states events

-- what is made of events behind those that are judged so: where something is wrong with those, nothing behind them counts
abbrev pub behind : Judged → ((ℕ → ℕ) → Judged) → Judged
behind (all_taken states) rest = rest states
behind (no_candidate i) rest = no_candidate i
behind (write_off i) rest = write_off i
behind (read_off i) rest = read_off i

-- no read is off: the devices allow the answers
abbrev pub IsAllowed : Judged → Type 0
IsAllowed judged = (i : ℕ) → judged ≢ read_off i
