-- The table of heights as the code has it.
use Rattle.std.specs.Prelude.{◌≡◌, ◌≤◌, ℕ, List, map, reverse, length, refl}
use Rattle.std.specs.Option.{unwrap_or}
use Rattle.std.specs.Borrow.{Bor}
use Rattle.std.specs.BTreeMap.{BTreeMap, get_by}
use Rattle.std.specs.Cmp.Lexicographic.{slice_cmp}
use Rattle.std.specs.Ordering.{nat_cmp}
use Rattle.std.specs.Coded.{Coded, code_by, coded_ℕ, coded_list, coded×}
use Rattle.sail_syntax.specs.Tree.{Text}
use Rattle.type_rules.specs.Heights.{Height, height_of}
use Rattle.type_heights.specs.declared.heights.HeightRef.{HeightRef}

-- a function and its height
abbrev pub height_at : HeightRef → Height
height_at h = record { name = h.name.now; calls = h.calls }

-- functions, the oldest first, with the newest first
abbrev pub heights_of : List HeightRef → List Height
heights_of hs = map height_at (reverse hs)

-- the map has the height of each name, and no function is higher than there are functions
pub record IsFiled (newest : BTreeMap (Bor Text) ℕ) (known : List Height) : Type 0 where
  pub found : (x : Text) → unwrap_or (get_by (λ k. slice_cmp nat_cmp x k.now) newest) 0 ≡ height_of x known
  pub below : (x : Text) → height_of x known ≤ length known

-- a function and its height, as data
abbrev pub height_code : Coded Height
height_code = code_by (Text × ℕ) (coded× (coded_list coded_ℕ) coded_ℕ) (λ h. (h.name, h.calls)) (λ p. record { name = p.0; calls = p.1 }) (λ _. refl)
