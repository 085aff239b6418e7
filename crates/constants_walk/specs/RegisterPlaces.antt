-- The values of registers, by the registers' numbers.
use Rattle.std.specs.Prelude.{◌≡◌, ◌≢◌, ◌<◌, ℕ, Bool, true, not, ◌&&◌, ◌==◌, List, [], ◌∷◌, map, length, All, Option, Some, None, slice_get, if◌then◌else◌, bytes_eq}
use Rattle.std.specs.List.{AllPairs, list_any, position_from}
use Rattle.bv_bits.specs.declared.Bits.{Bits}
use Rattle.bv_bits.specs.Bits.{IsBits}
use Rattle.lex_core.specs.declared.name.RegDecl.{RegDecl}
use Rattle.lex_core.specs.Classes.{Text}
use Rattle.proof_form.specs.declared.form.NamedValue.{NamedValue}
use Rattle.constants_walk.specs.declared.register_places.PlacedValue.{PlacedValue}
use Rattle.read_rules.specs.Binding.{◌>>=◌}
use Rattle.machine_run.specs.Program.{width_in}

-- whether the register has this name
abbrev pub is_named : Text → RegDecl → Bool
is_named z r = bytes_eq r.name z

-- a value with the number of the first register of its name, which isn't pc and is as wide as the value
unfoldable pub place : List RegDecl → ℕ → NamedValue → Option PlacedValue
place rs pc v = do
  k ← position_from (is_named v.register) 0 rs
  width ← slice_get (map width_in rs) k
  if not (k == pc) && width == v.value.width then Some (record { register = k; value = v.value }) else None

-- each value with its register's number
unfoldable pub place_each : List RegDecl → ℕ → List NamedValue → Option (List PlacedValue)
place_each rs pc [] = Some []
place_each rs pc (v ∷ vs) = do
  first ← place rs pc v
  others ← place_each rs pc vs
  Some (first ∷ others)

-- whether one of the values is that of this register
abbrev pub has : List PlacedValue → ℕ → Bool
has vs k = list_any (λ v. v.register == k) vs

-- whether no register comes twice
unfoldable pub are_distinct : List PlacedValue → Bool
are_distinct [] = true
are_distinct (v ∷ vs) = not (has vs v.register) && are_distinct vs

-- the values, if no register comes twice
abbrev pub if_distinct : List PlacedValue → Option (List PlacedValue)
if_distinct vs = if are_distinct vs then Some vs else None

-- each value with its register's number, and no register twice
unfoldable pub places : List RegDecl → ℕ → List NamedValue → Option (List PlacedValue)
places rs pc vs = place_each rs pc vs >>= if_distinct

-- ---- what holds of placed values

-- a register's number, and its value
abbrev pub pair_of : PlacedValue → ℕ × Bits
pair_of v = (v.register, v.value)

-- a number and bits are the value of a register other than pc, where the registers have these widths
pub record IsPlaced (widths : List ℕ) (pc : ℕ) (v : ℕ × Bits) : Type 0 where
  pub there : v.0 < length widths
  pub other : v.0 ≢ pc
  pub wide : slice_get widths v.0 ≡ Some v.1.width
  pub bits : IsBits v.1

-- each is the value of a register, no two of them of one register
pub record ArePlaced (widths : List ℕ) (pc : ℕ) (vs : List (ℕ × Bits)) : Type 0 where
  pub each : All (IsPlaced widths pc) vs
  pub differ : AllPairs (λ v w. v.0 ≢ w.0) vs
