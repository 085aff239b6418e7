-- A specification over constants: one code range, one exit at an address, and registers with values.
use Rattle.std.specs.Prelude.{◌≡◌, ◌≢◌, ◌≤◌, ◌<◌, ◌^◌, ℕ, zero, suc, ◌+◌, ◌-◌, Bool, true, false, ◌&&◌, if◌then◌else◌, nat_le, nat_lt, List, [], ◌∷◌, length, drop, slice_index, map, All, AllPairs, Contains, Some}
use Rattle.std.specs.List.{list_any}
use Rattle.bv_bits.specs.declared.Bits.{Bits}
use Rattle.state_core.specs.State.{State, register_of, widths_of}
use Rattle.state_core.specs.declared.kinds.Access.{Access}
use Rattle.state_core.specs.declared.kinds.AccessKind.{AccessKind}
use Rattle.state_core.specs.declared.kinds.AccessKind.TheVariants as access
use Rattle.state_core.specs.declared.kinds.FaultKind.{FaultKind}
use Rattle.state_core.specs.declared.kinds.FaultKind.TheVariants as kind
use Rattle.state_core.specs.World.{World, fault}
use Rattle.state_core.specs.Claims.{Claim, register_is, HasBytes}
use Rattle.state_core.specs.Devices.{Transitions, no_transition}
use Rattle.eval_words.specs.Instr.{Ended, whole, cut}
use Rattle.machine_run.specs.Words.{is_long}
use Rattle.machine_run.specs.Machine.{Machine, pc_of, step}
use Rattle.machine_safe.specs.Routine.{Routine}

-- the code's first address and its bytes; where the entry is, and the values of registers there; where the exit is, and the values of
-- registers there
pub record Constants : Type 0 where
  pub lo : ℕ
  pub code : List ℕ
  pub entry_at : ℕ
  pub entry : List (ℕ × Bits)
  pub exit_at : ℕ
  pub exit : List (ℕ × Bits)

-- the first address behind the code
abbrev pub end_of : Constants → ℕ
end_of c = c.lo + length c.code

-- the registers have these values
abbrev pub values_are : List (ℕ × Bits) → List Claim
values_are vs = map (λ v. register_is v.0 (Some v.1)) vs

-- the specification: no variables, nothing assumed, and nothing called, so that its own code is its cover
abbrev pub spec_of : Constants → Routine (Unit {0}) (Unit {0}) (Unit {0})
spec_of c = record {
  entry_at = c.entry_at;
  entry = λ _ _. values_are c.entry;
  assumed = [];
  beside = (c.lo, c.code) ∷ [];
  cover = (c.lo, c.code) ∷ [];
  exits = record { at = λ _. c.exit_at; claims = λ _ _. values_are c.exit } ∷ [];
}

-- no device has a transition
abbrev pub no_transitions : Transitions
no_transitions = λ d q e. no_transition

-- the variables' values: there is none
abbrev pub no_variables : Unit {0} → Type 0
no_variables _ = Unit {0}

-- the address lies in the code
abbrev pub is_inside : Constants → ℕ → Bool
is_inside c pc = nat_le c.lo pc && nat_lt pc (end_of c)

-- ---- words of the code

-- the code's byte at an address
abbrev pub byte_of : Constants → ℕ → ℕ
byte_of c pc = slice_index c.code (pc - c.lo)

-- how many bytes a word has: four, or, where there are words of two bytes, two unless the lowest two bits are 11
abbrev pub size_by : Bool → Bool → ℕ
size_by false long = 4
size_by true false = 2
size_by true true = 4

-- how many bytes the word at an address of the code has
abbrev pub size_at : Machine → Constants → ℕ → ℕ
size_at m c pc = size_by m.short (is_long (byte_of c pc))

-- ---- the walk through the code

-- the access is no fetch: it reads or writes memory or a device
abbrev pub is_no_fetch : AccessKind → Bool
is_no_fetch access.Fetch = false
is_no_fetch access.Read = true
is_no_fetch access.Write = true

abbrev pub is_data : Access → Bool
is_data a = is_no_fetch a.kind

-- from one world to another one memory or a device was accessed, by what was noted meanwhile
abbrev pub has_touched : World → World → Bool
has_touched w x = list_any is_data (drop (length w.accesses) x.accesses)

-- how a walk ends
pub data Walked : Type 0 where
  -- the PC has left the code, after so many instructions, of which the last one was at this address
  left : (count : ℕ) → (last : ℕ) → Walked
  -- the bytes of the word at the PC don't lie in the code
  outside : (pc : ℕ) → Walked
  -- the instruction at the PC accesses memory or a device
  touches : (pc : ℕ) → Walked
  -- the instruction at the PC ends early
  fails : (ended : Ended) → (pc : ℕ) → Walked
  -- one instruction too many stands at the PC
  too_many : (pc : ℕ) → Walked

-- where the PC lies in the code and so do the bytes of its word, the walk goes further
abbrev pub at_pc : Machine → Constants → ℕ → ℕ → World → Walked × World → Walked × World
at_pc m c count last w further =
    if is_inside c (pc_of m w.state)
    then (if nat_le (pc_of m w.state + size_at m c (pc_of m w.state)) (end_of c) then further else (outside (pc_of m w.state), w))
    else (left count last, w)

-- behind a step from the PC, which has touched memory or a device or has not
abbrev pub next_of : Bool → Ended → ℕ → World → Walked × World → Walked × World
next_of true ended pc w rest = (touches pc, w)
next_of false whole pc w rest = rest
next_of false (cut why) pc w rest = (fails (cut why) pc, w)

-- steps while the PC lies in the code, at most `room` more after `count`, the last one of which was from `last`
abbrev pub walk_from : Machine → Constants → ℕ → ℕ → ℕ → World → Walked × World
walk_from m c count last zero w = at_pc m c count last w (too_many (pc_of m w.state), w)
walk_from m c count last (suc room) w =
    let s = step m [] w in
    at_pc m c count last w (next_of (has_touched w s.1) s.0 (pc_of m w.state) s.1 (walk_from m c (suc count) (pc_of m w.state) room s.1))

-- a fault that the text itself makes: no arm of a match fits, the test of an assert is false, or the exit
abbrev pub is_plain : FaultKind → Bool
is_plain kind.MatchFail = true
is_plain kind.AssertFail = true
is_plain kind.Exit = true
is_plain kind.NoByte = false
is_plain kind.BadDevice = false

-- cut short by such a fault, at a place of the Sail text
abbrev pub IsPlainCut : Ended → Type 0
IsPlainCut e = (k : FaultKind) × (at : ℕ) × (e ≡ cut (fault k at)) × (is_plain k ≡ true)

-- ---- what makes a walk tell of every state

-- the conditions on constants
pub record FitsForm (m : Machine) (c : Constants) : Type 0 where
  -- the code ends at the last address at most, the entry is in it, the exit isn't
  pub place : end_of c ≤ 2 ^ 64
  pub entry_inside : is_inside c c.entry_at ≡ true
  pub exit_outside : is_inside c c.exit_at ≡ false
  -- every register but the PC has a value at the entry
  pub owned : (r : ℕ) → r < length m.widths → r ≢ m.pc → Contains (map (λ v. v.0) c.entry) r
  -- the exit's registers differ, are there, and none is the PC
  pub exit_differ : AllPairs ◌≢◌ (map (λ v. v.0) c.exit)
  pub exit_there : All (λ v. v.0 < length m.widths) c.exit
  pub exit_other : All (λ v. v.0 ≢ m.pc) c.exit
  -- the PC is there
  pub pc_there : m.pc < length m.widths

-- a state with the entry's registers and the code's bytes
pub record IsPartial (m : Machine) (c : Constants) (s : State) : Type 0 where
  pub widths : widths_of s ≡ m.widths
  pub values : All (λ v. register_of s v.0 ≡ v.1) c.entry
  pub pc : pc_of m s ≡ c.entry_at
  pub code : HasBytes s.memory c.lo c.code
