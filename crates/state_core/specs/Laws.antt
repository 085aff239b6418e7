-- What accesses leave as it is, in the subject's own words.
use Rattle.std.specs.Prelude.{◌≡◌, ◌<◌, ◌≤◌, ◌⊎◌, ℕ, ◌+◌, ◌*◌, ◌^◌, List, ◌++◌, Some, is_some}
use Rattle.std.specs.FinMap.{get}
use Rattle.state_core.specs.declared.kinds.Access.{Access}
use Rattle.state_core.specs.declared.kinds.DevEvent.{DevEvent}
use Rattle.state_core.specs.State.{Memory, IsState}
use Rattle.state_core.specs.World.{World, Got, reached, IfGets, IfFaults}
use Rattle.state_core.specs.Memory.{Nothing, read_number}

-- the memory behind a write of the n low bytes of a value
pub record IsWrite (m : Memory) (at n value : ℕ) (after : Memory) : Type 0 where
  -- what is written reads back
  pub reads_back : value < 2 ^ (8 * n) → read_number after at n ≡ Some value
  -- other bytes are left alone
  pub others : (a : ℕ) → (a < at) ⊎ (at + n ≤ a) → get after a ≡ get m a
  -- no byte is added or removed
  pub places : (a : ℕ) → is_some (get after a) ≡ is_some (get m a)

-- what was done only grows
pub record Grows (w x : World) : Type 0 where
  pub accesses : List Access
  pub events : List DevEvent
  pub accesses_grow : x.accesses ≡ w.accesses ++ accesses
  pub events_grow : x.events ≡ w.events ++ events

-- what a read or a fetch of n bytes gives and leaves
pub record IsRead (n : ℕ) (w : World) (got : Got ℕ) : Type 0 where
  -- the state stays as it is
  pub state : (reached got).state ≡ w.state
  pub grows : Grows w (reached got)
  -- in a state of values alone the value fits in the bytes
  pub fits : IsState w.state → IfGets got (λ x. x < 2 ^ (8 * n))

-- what a write leaves
pub record IsStored (w : World) (got : Got Nothing) : Type 0 where
  -- a state of values alone stays one
  pub values : IsState w.state → IsState (reached got).state
  pub grows : Grows w (reached got)
  -- where it fails, the state stays as it is, and there is no event
  pub state : IfFaults got (λ x. x.state ≡ w.state)
  pub events : IfFaults got (λ x. x.events ≡ w.events)
