-- Specifications and procedures: where they are entered, what they own, and where they leave.
use Rattle.std.specs.Prelude.{◌≡◌, ℕ, List, ◌++◌, map, All}
use Rattle.bv_bits.specs.declared.Bits.{Bits}
use Rattle.state_core.specs.declared.kinds.Range.{Range}
use Rattle.state_core.specs.State.{State, IsState, register_of, widths_of}
use Rattle.state_core.specs.Claims.{Part, Claim, bytes_are, Meets, all_parts}
use Rattle.machine_run.specs.Machine.{Machine, pc_of}

-- an exit, or the return of a procedure: its address, by the values of the fixed variables alone, and its assertion, by these and by the
-- values of its own variables
pub record Exit (F W : Type 0) : Type 0 where
  pub at : F → ℕ
  pub claims : F → W → List Claim

-- a specification or a procedure: F has the values of the fixed variables, V those of the entry's own, W those of an exit's own
pub record Routine (F V W : Type 0) : Type 0 where
  -- the address of the entry, and its assertion, with every fact that is given
  pub entry_at : ℕ
  pub entry : F → V → List Claim
  -- the registers that are assumed to have a value
  pub assumed : List (ℕ × Bits)
  -- code that takes parts of its own beside the claims: a specification's own code, and none of a procedure
  pub beside : List (ℕ × List ℕ)
  -- the cover: its own code and that of each procedure that it reaches, as bytes of the image from addresses on
  pub cover : List (ℕ × List ℕ)
  -- the exits of a specification, or the return of a procedure alone
  pub exits : List (Exit F W)

-- the bytes of code
abbrev pub code_claims : List (ℕ × List ℕ) → List Claim
code_claims code = map (λ r. bytes_are r.0 r.1) code

module _ {F V W : Type 0} where
  -- the parts that the cover takes
  abbrev pub cover_parts : Routine F V W → List Part
  cover_parts r = all_parts (code_claims r.cover)

  -- the parts that the entry owns: the cover and what its claims take
  abbrev pub own : Routine F V W → F → V → List Part
  own r f v = all_parts (code_claims r.cover ++ r.entry f v)

  -- the addresses of the exits
  abbrev pub exit_addresses : Routine F V W → F → List ℕ
  exit_addresses r f = map (λ e. e.at f) r.exits

  -- claims are met under the routine, in parts that its entry owns
  abbrev pub IsMet : List Range → State → (ℕ → ℕ) → Routine F V W → F → V → List Claim → Type 0
  IsMet ranges s devices r f v claims = Meets ranges s devices (own r f v) (code_claims r.beside) (code_claims r.cover) claims

  -- a state that an entry speaks of
  pub record IsEntry (m : Machine) (ranges : List Range) (r : Routine F V W) (f : F) (v : V) (s : State) (devices : ℕ → ℕ) : Type 0 where
    -- it holds values alone, and has the machine's registers
    pub values : IsState s
    pub widths : widths_of s ≡ m.widths
    -- the PC is at the entry, and the assumed registers have their values
    pub pc : pc_of m s ≡ r.entry_at
    pub assumed : All (λ a. register_of s a.0 ≡ a.1) r.assumed
    -- it meets the entry's assertion
    pub meets : IsMet ranges s devices r f v (r.entry f v)
