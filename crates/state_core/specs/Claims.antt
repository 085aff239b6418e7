-- What an assertion says once its variables have values, and which parts of the machine it takes.
use Rattle.std.specs.Prelude.{◌≡◌, ◌≢◌, ℕ, zero, suc, ◌+◌, List, [], ◌∷◌, ◌++◌, Bool, false, IsTrue, length, All, AllPairs, Contains, Option, Some, IfSome}
use Rattle.std.specs.FinMap.{get}
use Rattle.bv_bits.specs.declared.Bits.{Bits}
use Rattle.state_core.specs.declared.kinds.Range.{Range}
use Rattle.state_core.specs.State.{State, Memory, register_of}
use Rattle.state_core.specs.Memory.{touches}

-- a part of the machine
pub data Part : Type 0 where
  -- the byte at an address
  byte : (at : ℕ) → Part
  -- a register, by its number
  register : (r : ℕ) → Part
  -- a device, by its number
  device : (d : ℕ) → Part

-- what is said of a part, or of none
pub data Claim : Type 0 where
  -- a fact
  is_so : (test : Bool) → Claim
  -- the register is owned, and has the value where one is given
  register_is : (r : ℕ) → (value : Option Bits) → Claim
  -- these bytes stand from an address on
  bytes_are : (at : ℕ) → (bytes : List ℕ) → Claim
  -- the device is at a state
  device_is : (d : ℕ) → (q : ℕ) → Claim

-- n bytes from an address on, as parts
abbrev pub bytes_from : ℕ → ℕ → List Part
bytes_from at zero = []
bytes_from at (suc n) = byte at ∷ bytes_from (at + 1) n

-- the parts that a claim takes
abbrev pub parts_of : Claim → List Part
parts_of (is_so test) = []
parts_of (register_is r value) = register r ∷ []
parts_of (bytes_are at bytes) = bytes_from at (length bytes)
parts_of (device_is d q) = device d ∷ []

-- the parts that claims take
abbrev pub all_parts : List Claim → List Part
all_parts [] = []
all_parts (c ∷ claims) = parts_of c ++ all_parts claims

-- the bytes stand from that address on
abbrev pub HasBytes : Memory → ℕ → List ℕ → Type 0
HasBytes m at [] = Unit {0}
HasBytes m at (b ∷ bytes) = (get m at ≡ Some b) × HasBytes m (at + 1) bytes

-- the claim is true of a state and of the states of the devices
abbrev pub Holds : State → (ℕ → ℕ) → Claim → Type 0
Holds s devices (is_so test) = IsTrue test
Holds s devices (register_is r value) = IfSome value (λ v. register_of s r ≡ v)
Holds s devices (bytes_are at bytes) = HasBytes s.memory at bytes
Holds s devices (device_is d q) = devices d ≡ q

-- no part stands twice
abbrev pub IsDisjoint : List Part → Type 0
IsDisjoint parts = AllPairs ◌≢◌ parts

-- a state and the states of the devices meet claims beside some code and under a cover of code
pub record Meets (ranges : List Range) (s : State) (devices : ℕ → ℕ) (owned : List Part) (beside cover claims : List Claim) : Type 0 where
  -- each claim is true, and the cover is there
  pub hold : All (Holds s devices) claims
  pub code : All (Holds s devices) cover
  -- the claims and the code beside them take parts of their own, and no claim takes one of the cover's
  pub apart : IsDisjoint (all_parts (beside ++ claims))
  pub free : All (λ p. Contains (all_parts cover) p → ⊥) (all_parts claims)
  -- the parts that the claims take are owned
  pub inside : All (Contains owned) (all_parts claims)
  -- no byte of the state lies in the range of a device
  pub outside : (a b : ℕ) → get s.memory a ≡ Some b → touches ranges a 1 ≡ false
