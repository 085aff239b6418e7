-- Gates as rows of signs: when a row holds, and of which function rows are the gate.
use Rattle.std.specs.Prelude.{◌≡◌, ◌<◌, ◌⊎◌, ℕ, ℤ, pos, negsuc, zero, suc, Bool, true, false, not, ◌&&◌, ◌||◌, ◌↔◌, IsTrue, if◌then◌else◌, List, [], ◌∷◌, length, zip, slice_index_or}
use Rattle.std.specs.List.{list_any, list_all}

-- ---- signs

-- the place stands positive in the row
abbrev pub plus : ℤ
plus = pos 1

-- the place stands negative in the row
abbrev pub minus : ℤ
minus = negsuc 0

-- the place stands not at all in the row
abbrev pub none : ℤ
none = pos 0

-- one of the three
abbrev pub IsSign : ℤ → Type 0
IsSign sign = (sign ≡ plus) ⊎ ((sign ≡ minus) ⊎ (sign ≡ none))

-- the same as a test
abbrev pub is_sign : ℤ → Bool
is_sign (pos zero) = true
is_sign (pos (suc zero)) = true
is_sign (pos (suc (suc n))) = false
is_sign (negsuc zero) = true
is_sign (negsuc (suc n)) = false

-- nothing else stands in the rows
abbrev pub all_signs : List (List ℤ) → Bool
all_signs rows = list_all (list_all is_sign) rows

-- the sign of a place in a row
abbrev pub sign_at : List (List ℤ) → ℕ → ℕ → ℤ
sign_at rows row place = slice_index_or (slice_index_or rows row []) place none

-- ---- rows

-- whether a place that stands with this sign makes its row true
abbrev pub makes_true : ℤ → Bool → Bool
makes_true (pos zero) value = false
makes_true (pos (suc n)) value = value
makes_true (negsuc n) value = not value

-- whether one of its places makes the row true
abbrev pub row_holds : List Bool → List ℤ → Bool
row_holds places row = list_any (λ p. makes_true p.0 p.1) (zip row places)

-- whether each row is true
abbrev pub all_hold : List (List ℤ) → List Bool → Bool
all_hold rows places = list_all (row_holds places) rows

-- where all rows hold, each does
abbrev pub EachRowHolds : Type 0
EachRowHolds =
    (rows : List (List ℤ)) (places : List Bool) (row : ℕ) → row < length rows → IsTrue (all_hold rows places) → IsTrue (row_holds places (slice_index_or rows row []))

-- ---- gates: at each value of the inputs, the rows hold exactly where the output, the last place, is the function of the inputs

-- of one input
abbrev pub IsGateOfOne : (Bool → Bool) → List (List ℤ) → Type 0
IsGateOfOne f rows = (x o : Bool) → IsTrue (all_hold rows (x ∷ o ∷ [])) ↔ (o ≡ f x)

-- of two inputs
abbrev pub IsGateOfTwo : (Bool → Bool → Bool) → List (List ℤ) → Type 0
IsGateOfTwo f rows = (x y o : Bool) → IsTrue (all_hold rows (x ∷ y ∷ o ∷ [])) ↔ (o ≡ f x y)

-- of three inputs
abbrev pub IsGateOfThree : (Bool → Bool → Bool → Bool) → List (List ℤ) → Type 0
IsGateOfThree f rows = (x y z o : Bool) → IsTrue (all_hold rows (x ∷ y ∷ z ∷ o ∷ [])) ↔ (o ≡ f x y z)

-- ---- parts of gates

-- the rows hold exactly where the only place is 1
abbrev pub IsUnit : List (List ℤ) → Type 0
IsUnit rows = (o : Bool) → IsTrue (all_hold rows (o ∷ [])) ↔ IsTrue o

-- the rows hold exactly where the output is 0 or the function of the inputs is 1
abbrev pub OutputImplies : (Bool → Bool → Bool) → List (List ℤ) → Type 0
OutputImplies f rows = (x y o : Bool) → IsTrue (all_hold rows (x ∷ y ∷ o ∷ [])) ↔ IsTrue (not o || f x y)

-- ---- their functions

-- both are the same
abbrev pub equal : Bool → Bool → Bool
equal x y = if x then y else not y

-- exactly one of both
abbrev pub exclusive : Bool → Bool → Bool
exclusive x y = if x then not y else y

-- an odd number of the three
abbrev pub parity : Bool → Bool → Bool → Bool
parity x y z = exclusive (exclusive x y) z

-- at least two of the three
abbrev pub majority : Bool → Bool → Bool → Bool
majority x y z = if x then y || z else y && z

-- the second where the first holds, else the third
abbrev pub chosen : Bool → Bool → Bool → Bool
chosen s x y = if s then x else y
