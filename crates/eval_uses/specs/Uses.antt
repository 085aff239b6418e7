-- What the moments of an evaluation tell of the worlds that it comes from and reaches.
use Rattle.std.specs.Prelude.{◌≡◌, ◌⊎◌, ℕ, nat_eq, Bool, true, false, List, map, ◌++◌}
use Rattle.std.specs.List.{list_any}
use Rattle.bv_bits.specs.declared.Bits.{Bits}
use Rattle.state_core.specs.declared.kinds.Access.{Access}
use Rattle.state_core.specs.declared.kinds.DevEvent.{DevEvent}
use Rattle.state_core.specs.State.{register_of, widths_of}
use Rattle.state_core.specs.World.{World, Halt}
use Rattle.state_core.specs.Laws.{Grows}
use Rattle.sail_values.specs.declared.value.Slot.{Slot}
use Rattle.eval_rules.specs.Flow.{Out, gives, stops}
use Rattle.eval_rules.specs.Moments.{Did, reads, writes, accesses, passes, Moment}

-- ---- moments

-- a register is read
abbrev pub is_read_of : ℕ → Did → Bool
is_read_of r (reads q) = nat_eq r q
is_read_of r (writes q) = false
is_read_of r accesses = false
is_read_of r passes = false

-- a register is written
abbrev pub is_write_of : ℕ → Did → Bool
is_write_of r (reads q) = false
is_write_of r (writes q) = nat_eq r q
is_write_of r accesses = false
is_write_of r passes = false

-- memory or a device is accessed
abbrev pub is_access : Did → Bool
is_access (reads q) = false
is_access (writes q) = false
is_access accesses = true
is_access passes = false

-- some moment reads a register
abbrev pub has_read : ℕ → List Moment → Bool
has_read r ms = list_any (λ m. is_read_of r m.did) ms

-- some moment writes it
abbrev pub has_write : ℕ → List Moment → Bool
has_write r ms = list_any (λ m. is_write_of r m.did) ms

-- some moment is an access
abbrev pub has_access : List Moment → Bool
has_access ms = list_any (λ m. is_access m.did) ms

-- what is done at the moments, without the worlds
abbrev pub dids : List Moment → List Did
dids ms = map (λ m. m.did) ms

-- ---- one evaluation

-- the world that an outcome reaches
abbrev pub world_in : {X : Type 0} → Out X → World
world_in (gives x locals world) = world
world_in (stops why world) = world

-- two worlds have the same memory and the same answers left
pub record SameOutside (w v : World) : Type 0 where
  pub memory : v.state.memory ≡ w.state.memory
  pub answers : v.answers ≡ w.answers

-- a world has all but the registers as another one
pub record SameRest (w x : World) : Type 0 where
  pub outside : SameOutside w x
  pub accesses : x.accesses ≡ w.accesses
  pub events : x.events ≡ w.events

-- what an evaluation with these moments leaves from the world w, in the world x that it reaches
pub record MomentsKeep (ms : List Moment) (w x : World) : Type 0 where
  -- a register that no moment writes has its value
  pub registers : (r : ℕ) → has_write r ms ≡ false → register_of x.state r ≡ register_of w.state r
  -- there are as many registers, of the same widths
  pub widths : widths_of x.state ≡ widths_of w.state
  -- without an access the rest of the world is as it was
  pub rest : has_access ms ≡ false → SameRest w x
  -- what was done only grows
  pub grows : Grows w x

-- ---- two evaluations

-- two worlds are alike for moments
pub record Alike (ms : List Moment) (w v : World) : Type 0 where
  -- each register that is read has one value
  pub registers : (r : ℕ) → has_read r ms ≡ true → register_of v.state r ≡ register_of w.state r
  -- there are as many registers, of the same widths, on which depends whether a value fits
  pub widths : widths_of v.state ≡ widths_of w.state
  -- where there is an access, memory and answers are the same
  pub outside : has_access ms ≡ true → SameOutside w v

-- a register is written and has one value in x and y; or it has in each what it had in w and v: also where what is written doesn't fit, which changes nothing
abbrev pub SameOrKept : List Moment → World → World → World → World → ℕ → Type 0
SameOrKept ms w v x y r =
    ((has_write r ms ≡ true) × (register_of y.state r ≡ register_of x.state r))
    ⊎ ((register_of x.state r ≡ register_of w.state r) × (register_of y.state r ≡ register_of v.state r))

-- the same was added to what was done, from w to x and from v to y
pub record GrowAlike (w v x y : World) : Type 0 where
  pub accesses : List Access
  pub events : List DevEvent
  pub one_accesses : x.accesses ≡ w.accesses ++ accesses
  pub one_events : x.events ≡ w.events ++ events
  pub other_accesses : y.accesses ≡ v.accesses ++ accesses
  pub other_events : y.events ≡ v.events ++ events

-- the worlds x and y that are reached from w and v are alike for moments
pub record ReachedAlike (ms : List Moment) (w v x y : World) : Type 0 where
  -- each register has one value in both, or has been left in both
  pub registers : (r : ℕ) → SameOrKept ms w v x y r
  -- memory and answers that are the same stay the same
  pub outside : SameOutside w v → SameOutside x y
  -- without an access the rest of y is that of v
  pub rest : has_access ms ≡ false → SameRest v y
  -- the same was done
  pub grow : GrowAlike w v x y

-- two outcomes are of one kind: the same value and locals, or an early end for the same reason; and the worlds that are reached are alike
pub data OutcomesAlike {X : Type 0} (ms : List Moment) (w v : World) (one two : Out X) : Type 0 where
  both_give : (x : X) → (locals : List Slot) → (reached other : World) → one ≡ gives x locals reached → two ≡ gives x locals other
      → ReachedAlike ms w v reached other → OutcomesAlike ms w v one two
  both_stop : (why : Halt) → (reached other : World) → one ≡ stops why reached → two ≡ stops why other
      → ReachedAlike ms w v reached other → OutcomesAlike ms w v one two

-- ---- without an access

-- a world with other registers
abbrev pub with_registers : List Bits → World → World
with_registers rs w = record w { state = record w.state { registers = rs } }

-- an outcome with the registers that it reaches, and the rest of another world
abbrev pub with_rest_of : {X : Type 0} → World → Out X → Out X
with_rest_of v (gives x locals world) = gives x locals (with_registers world.state.registers v)
with_rest_of v (stops why world) = stops why (with_registers world.state.registers v)
