-- The parts of axioms: their rows as clauses, and the parts of each operator.
use Rattle.std.specs.Prelude.{ℕ, ◌+◌, ◌-◌, ◌*◌, ◌/◌, ◌%◌, ◌^◌, ℤ, pos, negsuc, zero, suc, Bool, true, false, ◌&&◌, if◌then◌else◌, nat_eq, nat_lt, nat_le, List, [], ◌∷◌, ◌++◌, length, take, drop, map, slice_get, Option, Some, None, option_map, zip}
use Rattle.std.specs.List.{range_with_len, filter_map}
use Rattle.clause_core.specs.declared.BitName.TheVariants.{Truth, Bit}
use Rattle.clause_core.specs.declared.Lit.{Lit}
use Rattle.clause_core.specs.Clauses.{opposite_of}
use Rattle.clause_core.specs.Congruence.{congruence_of}
use Rattle.gate_tables.specs.Tables.{same_rows, and_rows, or_rows, xor_rows, sum_rows, maj_rows, mux_rows, unit_rows, equal_rows, apart_rows}
use Rattle.axiom_rules.specs.declared.part.Part.{Part}
use Rattle.axiom_rules.specs.declared.part.Part.TheVariants.{Unit, Same, And, Or, Xor, Sum, Maj, Mux, Equal, Apart, Any, Congruence}

-- ---- literals

-- a bit of a layer of a term is 1
abbrev pub bit_of : ℕ → ℕ → ℕ → Lit
bit_of term layer j = record { on = true; of = Bit term layer j }

-- a bit of the term's own value is 1
abbrev pub own : ℕ → ℕ → Lit
own term j = bit_of term 0 j

-- the literal that is never true
abbrev pub never : Lit
never = record { on = false; of = Truth }

-- the literal or its opposite
abbrev pub signed_by : Bool → Lit → Lit
signed_by b p = if b then p else opposite_of p

-- ---- the clause of a row

-- a place by its sign in a row
abbrev pub standing : ℤ → Lit → Option Lit
standing (pos zero) p = None
standing (pos (suc n)) p = Some p
standing (negsuc n) p = Some (opposite_of p)

-- the places that stand in the row, in their order, with their signs; the output is the last of them
abbrev pub row_clause : List ℤ → List Lit → List Lit
row_clause row places = filter_map (λ q. standing q.0 q.1) (zip row places)

-- a literal, and the first bits of layer 1
abbrev pub any_clause : Lit → ℕ → ℕ → List Lit
any_clause o term width = o ∷ map (bit_of term 1) (range_with_len 0 width)

-- the last one first
abbrev pub last_first : List Lit → List Lit
last_first c = drop (length c - 1) c ++ take (length c - 1) c

-- the clause of a row of a gate, in the order of the places
abbrev pub gate_clause : List (List ℤ) → List Lit → ℕ → Option (List Lit)
gate_clause rows places row = option_map (λ r. row_clause r places) (slice_get rows row)

-- the same with the output first
abbrev pub output_first : List (List ℤ) → List Lit → ℕ → Option (List Lit)
output_first rows places row = option_map last_first (gate_clause rows places row)

-- the clause of a row of the part
abbrev pub part_clause : Part → ℕ → Option (List Lit)
part_clause (Unit p) row = gate_clause unit_rows (p ∷ []) row
part_clause (Same x o) row = output_first same_rows (x ∷ o ∷ []) row
part_clause (And x y o) row = output_first and_rows (x ∷ y ∷ o ∷ []) row
part_clause (Or x y o) row = output_first or_rows (x ∷ y ∷ o ∷ []) row
part_clause (Xor x y o) row = output_first xor_rows (x ∷ y ∷ o ∷ []) row
part_clause (Sum x y z o) row = gate_clause sum_rows (x ∷ y ∷ z ∷ o ∷ []) row
part_clause (Maj x y z o) row = gate_clause maj_rows (x ∷ y ∷ z ∷ o ∷ []) row
part_clause (Mux s x y o) row = gate_clause mux_rows (s ∷ x ∷ y ∷ o ∷ []) row
part_clause (Equal x y o) row = output_first equal_rows (x ∷ y ∷ o ∷ []) row
part_clause (Apart x y o) row = output_first apart_rows (x ∷ y ∷ o ∷ []) row
part_clause (Any o term width) row = if nat_eq row 0 then Some (any_clause o term width) else None
part_clause (Congruence p q x y part bit) row = congruence_of p q x y part bit row

-- ---- the parts of each operator, at bit j; w is the width of the first argument, m of the second, i the term's number

-- the part where the test holds
abbrev pub when : Bool → Part → Option Part
when b p = if b then Some p else None

-- x + y, and one more where `first` holds: the sum bits, the carries in layer 1, and the first carry
abbrev pub adder : ℕ → ℕ → Lit → Lit → Bool → ℕ → ℕ → Option Part
adder i w x y first part j =
    if nat_eq part 0 then when (nat_lt j w) (Sum x y (bit_of i 1 j) (own i j))
    else (if nat_eq part 1 then when (nat_lt j w) (Maj x y (bit_of i 1 j) (bit_of i 1 (j + 1)))
    else (if nat_eq part 2 then when (nat_eq j 0) (Unit (signed_by first (bit_of i 1 0)))
    else None))

-- whether p is at least q (`least`), or below q: the carries of p - q in layer 1, the first one, and the last one
abbrev pub relation : ℕ → ℕ → Lit → Lit → Bool → ℕ → ℕ → Option Part
relation i w p q least part j =
    if nat_eq part 1 then when (nat_lt j w) (Maj p (opposite_of q) (bit_of i 1 j) (bit_of i 1 (j + 1)))
    else (if nat_eq part 2 then when (nat_eq j 0) (Unit (bit_of i 1 0))
    else (if nat_eq part 3 then when (nat_eq j 0) (Same (signed_by least (bit_of i 1 w)) (own i 0))
    else None))

-- the top bit of a signed number is negated
abbrev pub top_negated : ℕ → ℕ → Lit → Lit
top_negated w j p = if nat_eq (j + 1) w then opposite_of p else p

-- the same of signed numbers
abbrev pub signed_relation : ℕ → ℕ → Lit → Lit → Bool → ℕ → ℕ → Option Part
signed_relation i w p q least part j = relation i w (top_negated w j p) (top_negated w j q) least part j

-- whether x and y are equal: o where all bits agree, and layer 1 where they differ
abbrev pub equality : ℕ → ℕ → Lit → Lit → Lit → ℕ → ℕ → Option Part
equality i w x y o part j =
    if nat_eq part 0 then when (nat_lt j w) (Equal x y o)
    else (if nat_eq part 1 then when (nat_lt j w) (Apart x y (bit_of i 1 j))
    else (if nat_eq part 2 then when (nat_eq j 0) (Any o i w)
    else None))

-- part 0 alone, at the bits below the width
abbrev pub only : ℕ → ℕ → ℕ → Part → Option Part
only w part j p = when (nat_eq part 0 && nat_lt j w) p

-- the sum of the first r rows of a product
abbrev pub sum_before : ℕ → ℕ → ℕ → Lit
sum_before i r j = if nat_eq r 0 then never else bit_of i (3 * r - 1) j

-- row r of a product: the row itself, the sum with the rows before it, its carries, and the first carry
abbrev pub product_row : ℕ → ℕ → ℕ → ℕ → ℕ → ℕ → ℕ → Option Part
product_row i a b w r kind j =
    if nat_eq kind 0 then when (nat_lt j w) (And (if nat_lt j r then never else own a (j - r)) (own b r) (bit_of i (3 * r + 1) j))
    else (if nat_eq kind 1 then when (nat_lt j w) (Sum (sum_before i r j) (bit_of i (3 * r + 1) j) (bit_of i (3 * r + 3) j) (bit_of i (3 * r + 2) j))
    else (if nat_eq kind 2 then when (nat_lt j w) (Maj (sum_before i r j) (bit_of i (3 * r + 1) j) (bit_of i (3 * r + 3) j) (bit_of i (3 * r + 3) (j + 1)))
    else when (nat_eq j 0) (Unit (opposite_of (bit_of i (3 * r + 3) 0)))))

-- a product: its rows, and the last sum
abbrev pub product : ℕ → ℕ → ℕ → ℕ → ℕ → ℕ → Option Part
product i a b w part j =
    if nat_lt (part / 4) w then product_row i a b w (part / 4) (part % 4) j
    else when (nat_eq part (4 * w) && nat_lt j w) (Same (bit_of i (3 * w - 1) j) (own i j))

-- what is shifted by the first s bits of the amount
abbrev pub stage : ℕ → ℕ → ℕ → ℕ → Lit
stage i a s j = if nat_eq s 0 then own a j else bit_of i s j

-- a shift: a choice for each bit of the amount, and the last one
abbrev pub shifted : ℕ → ℕ → ℕ → ℕ → Lit → ℕ → ℕ → Option Part
shifted i a b m moved part j =
    if nat_lt part m then Some (Mux (own b part) moved (stage i a part j) (bit_of i (part + 1) j))
    else when (nat_eq part m) (Same (bit_of i m j) (own i j))

-- the bit 2 ^ s further down, and nothing below the lowest
abbrev pub from_below : ℕ → ℕ → ℕ → ℕ → Lit
from_below i a s j = if nat_le (2 ^ s) j then stage i a s (j - 2 ^ s) else never

-- the bit 2 ^ s further up, and this one above the highest
abbrev pub from_above : ℕ → ℕ → ℕ → ℕ → ℕ → Lit → Lit
from_above i a s j w outside = if nat_lt (j + 2 ^ s) w then stage i a s (j + 2 ^ s) else outside

-- the part at the bits within the width
abbrev pub within : Bool → Option Part → Option Part
within b p = if b then p else None
