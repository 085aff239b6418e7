-- When a proof gives constants of a run, and which.
use Rattle.std.specs.Prelude.{◌≤◌, ◌<◌, ℕ, zero, suc, ◌+◌, ◌-◌, ◌^◌, Bool, not, ◌&&◌, ◌||◌, ◌==◌, nat_le, nat_lt, List, [], ◌∷◌, map, Option, Some, None, if◌then◌else◌}
use Rattle.std.specs.FinMap.{get}
use Rattle.std.specs.List.{list_all, range_with_len}
use Rattle.std.specs.Option.{option_map}
use Rattle.state_core.specs.State.{Memory}
use Rattle.read_rules.specs.Binding.{◌>>=◌}
use Rattle.proof_form.specs.declared.form.NamedProof.{NamedProof}
use Rattle.constants_walk.specs.declared.register_places.PlacedValue.{PlacedValue}
use Rattle.constants_walk.specs.declared.conditions.ConstantsData.{ConstantsData}
use Rattle.constants_walk.specs.RegisterPlaces.{has, pair_of}
use Rattle.machine_safe.specs.First.{Constants}

-- ---- the code

-- the n bytes of a memory from an address on; none where one of them isn't there
abbrev pub bytes_in : Memory → ℕ → ℕ → Option (List ℕ)
bytes_in m at zero = Some []
bytes_in m at (suc n) = get m at >>= λ b. option_map (λ bytes. b ∷ bytes) (bytes_in m (at + 1) n)

-- the bytes of a memory from one address up to below another; none where one of them isn't there, or they pass the last address, 2^64 - 1
unfoldable pub code_in : Memory → ℕ → ℕ → Option (List ℕ)
code_in m lo hi = if nat_le hi (2 ^ 64) then bytes_in m lo (hi - lo) else None

-- the constants, with the code's bytes
abbrev pub constants_of : ConstantsData → List ℕ → Constants
constants_of c code = record {
  lo = c.lo;
  code = code;
  entry_at = c.entry_at;
  entry = map pair_of c.entry;
  exit_at = c.exit_at;
  exit = map pair_of c.exit;
}

-- ---- the conditions

-- whether an address is in a range
abbrev pub is_in : ℕ → ℕ → ℕ → Bool
is_in lo hi at = nat_le lo at && nat_lt at hi

-- whether the entry is in the code and the exit isn't
abbrev pub is_entered : NamedProof → Bool
is_entered p = is_in p.lo p.hi p.entry_at && not (is_in p.lo p.hi p.exit_at)

-- whether each of so many registers but pc has a value
unfoldable pub covers : ℕ → ℕ → List PlacedValue → Bool
covers count pc vs = list_all (λ k. k == pc || has vs k) (range_with_len 0 count)

-- the constants of a proof whose registers are placed, where the conditions hold
unfoldable pub constants : NamedProof → List PlacedValue → List PlacedValue → ℕ → ℕ → Option ConstantsData
constants p entry exit count pc =
    if is_entered p && covers count pc entry
    then Some (record { lo = p.lo; hi = p.hi; entry_at = p.entry_at; entry = entry; exit_at = p.exit_at; exit = exit })
    else None

-- the code of the constants is entered inside and left outside
pub record IsEntered (c : ConstantsData) : Type 0 where
  pub entered : c.lo ≤ c.entry_at
  pub entry : c.entry_at < c.hi
  pub left : c.lo ≤ c.exit_at → c.hi ≤ c.exit_at
