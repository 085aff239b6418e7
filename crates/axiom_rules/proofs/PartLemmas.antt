-- When the clauses of a part are true.
use Rattle.std.proofs.Common.{◌≡◌, ℕ, zero, suc, ◌+◌, ◌-◌, ◌<◌, ◌≤◌, Bool, true, false, not, ◌&&◌, ◌||◌, cond, ltb, eqb, ℤ, pos, negsuc, List, [], ◌∷◌, map, Option, Some, None, refl, ap, sym, ◌∙◌, arith}
use Rattle.std.specs.Prelude.{option_map, option_and_then, take, drop, length}
use Rattle.std.proofs.lemmas.List.Folds.{list_any-append}
use Rattle.std.proofs.lemmas.List.{take-append-drop}
use Rattle.std.proofs.lemmas.Bool.{and_parts, ltb-true, true≢false}
use Rattle.clause_core.specs.declared.BitName.{BitName}
use Rattle.clause_core.specs.declared.BitName.TheVariants.{Truth, Bit}
use Rattle.clause_core.specs.declared.Lit.{Lit}
use Rattle.clause_core.specs.Clauses.{same_bool, opposite_of, lit_holds, clause_holds}
use Rattle.gate_tables.specs.Gates.{row_holds, all_hold, exclusive, majority, parity, chosen}
use Rattle.gate_tables.specs.Tables.{same_rows, and_rows, or_rows, xor_rows, sum_rows, maj_rows, mux_rows, unit_rows, equal_rows, apart_rows}
use Rattle.bv_bits.specs.Bits.{bit}
use Rattle.axiom_rules.specs.declared.part.Part.{Part}
use Rattle.axiom_rules.specs.declared.part.Part.TheVariants.{Unit as UnitPart, Same, And, Or, Xor, Sum, Maj, Mux, Equal, Apart, Any}
use Rattle.axiom_rules.specs.Parts.{bit_of, own, never, row_clause, last_first, gate_clause, output_first, part_clause, any_clause, when, signed_by, adder}
use Rattle.bv_bits.specs.BitLaws.{has_bit}
use Rattle.axiom_rules.specs.Truth.{carries}
use Rattle.axiom_rules.proofs.Numbers.{sum_bit, carry_bit, carry_none, carry_one}

-- ---- the gates, at each value of their inputs

same_at : (x : Bool) → all_hold same_rows (x ∷ x ∷ []) ≡ true
same_at true = refl
same_at false = refl

and_at : (x y : Bool) → all_hold and_rows (x ∷ y ∷ (x && y) ∷ []) ≡ true
and_at true true = refl
and_at true false = refl
and_at false true = refl
and_at false false = refl

or_at : (x y : Bool) → all_hold or_rows (x ∷ y ∷ (x || y) ∷ []) ≡ true
or_at true true = refl
or_at true false = refl
or_at false true = refl
or_at false false = refl

xor_at : (x y : Bool) → all_hold xor_rows (x ∷ y ∷ exclusive x y ∷ []) ≡ true
xor_at true true = refl
xor_at true false = refl
xor_at false true = refl
xor_at false false = refl

apart_at : (x y : Bool) → all_hold apart_rows (x ∷ y ∷ exclusive x y ∷ []) ≡ true
apart_at true true = refl
apart_at true false = refl
apart_at false true = refl
apart_at false false = refl

sum_at : (x y z : Bool) → all_hold sum_rows (x ∷ y ∷ z ∷ parity x y z ∷ []) ≡ true
sum_at true true true = refl
sum_at true true false = refl
sum_at true false true = refl
sum_at true false false = refl
sum_at false true true = refl
sum_at false true false = refl
sum_at false false true = refl
sum_at false false false = refl

maj_at : (x y z : Bool) → all_hold maj_rows (x ∷ y ∷ z ∷ majority x y z ∷ []) ≡ true
maj_at true true true = refl
maj_at true true false = refl
maj_at true false true = refl
maj_at true false false = refl
maj_at false true true = refl
maj_at false true false = refl
maj_at false false true = refl
maj_at false false false = refl

mux_at : (s x y : Bool) → all_hold mux_rows (s ∷ x ∷ y ∷ chosen s x y ∷ []) ≡ true
mux_at true true true = refl
mux_at true true false = refl
mux_at true false true = refl
mux_at true false false = refl
mux_at false true true = refl
mux_at false true false = refl
mux_at false false true = refl
mux_at false false false = refl

equal_at : (x y o : Bool) → (o ≡ true → x ≡ y) → all_hold equal_rows (x ∷ y ∷ o ∷ []) ≡ true
equal_at true true true e = refl
equal_at true false true e = absurd (true≢false (e refl))
equal_at false true true e = absurd (true≢false (sym (e refl)))
equal_at false false true e = refl
equal_at true true false e = refl
equal_at true false false e = refl
equal_at false true false e = refl
equal_at false false false e = refl

-- ---- literals

same_bool-true : (b : Bool) → same_bool b true ≡ b
same_bool-true true = refl
same_bool-true false = refl

same_bool-not : (b c : Bool) → same_bool b (not c) ≡ not (same_bool b c)
same_bool-not true c = refl
same_bool-not false c = refl

pub bit_lit : (v : BitName → Bool) (i l j : ℕ) → lit_holds v (bit_of i l j) ≡ v (Bit i l j)
bit_lit v i l j = same_bool-true (v (Bit i l j))

pub opposite_lit : (v : BitName → Bool) (p : Lit) → lit_holds v (opposite_of p) ≡ not (lit_holds v p)
opposite_lit v p = same_bool-not (v p.of) p.on

pub never_lit : (v : BitName → Bool) → v Truth ≡ true → lit_holds v never ≡ false
never_lit v t = ap (λ b. same_bool b false) t

-- ---- rows and their clauses

pub row_sound : (v : BitName → Bool) (row : List ℤ) (places : List Lit) → clause_holds v (row_clause row places) ≡ row_holds (map (lit_holds v) places) row
row_sound v [] places = refl
row_sound v (s ∷ row) [] = refl
row_sound v (pos zero ∷ row) (p ∷ places) = row_sound v row places
row_sound v (pos (suc n) ∷ row) (p ∷ places) = ap (λ b. lit_holds v p || b) (row_sound v row places)
row_sound v (negsuc n ∷ row) (p ∷ places) = ap (λ b. b || clause_holds v (row_clause row places)) (opposite_lit v p) ∙ ap (λ b. not (lit_holds v p) || b) (row_sound v row places)

gate_sound : (v : BitName → Bool) (rows : List (List ℤ)) (places : List Lit) → all_hold rows (map (lit_holds v) places) ≡ true → (row : ℕ) (c : List Lit) → gate_clause rows places row ≡ Some c → clause_holds v c ≡ true
gate_sound v [] places h row c e = cc
gate_sound v (r ∷ rows) places h zero c e =
    let same : row_clause r places ≡ c = cc in
    ap (clause_holds v) (sym same) ∙ row_sound v r places ∙ (and_parts (row_holds (map (lit_holds v) places) r) (all_hold rows (map (lit_holds v) places)) h).0
gate_sound v (r ∷ rows) places h (suc row) c e =
    gate_sound v rows places (and_parts (row_holds (map (lit_holds v) places) r) (all_hold rows (map (lit_holds v) places)) h).1 row c e

-- ---- the output first

or_swap : (a b : Bool) → (a || b) ≡ (b || a)
or_swap true true = refl
or_swap true false = refl
or_swap false true = refl
or_swap false false = refl

-- the order of a clause's literals doesn't matter
pub last_first_sound : (v : BitName → Bool) (c : List Lit) → clause_holds v (last_first c) ≡ clause_holds v c
last_first_sound v c =
    list_any-append (lit_holds v) (drop (length c - 1) c) (take (length c - 1) c)
    ∙ or_swap (clause_holds v (drop (length c - 1) c)) (clause_holds v (take (length c - 1) c))
    ∙ sym (list_any-append (lit_holds v) (take (length c - 1) c) (drop (length c - 1) c))
    ∙ ap (clause_holds v) (take-append-drop (length c - 1) c)

output_sound : (v : BitName → Bool) (rows : List (List ℤ)) (places : List Lit) → all_hold rows (map (lit_holds v) places) ≡ true → (row : ℕ) (c : List Lit) → output_first rows places row ≡ Some c → clause_holds v c ≡ true
output_sound v rows places h row c e = by (gate_clause rows places row) refl e
  where
    by : (o : Option (List Lit)) → gate_clause rows places row ≡ o → option_map last_first o ≡ Some c → clause_holds v c ≡ true
    by None f e = cc
    by (Some d) f e =
        let same : last_first d ≡ c = cc in
        ap (clause_holds v) (sym same) ∙ last_first_sound v d ∙ gate_sound v rows places h row d f

-- each clause of the part is true
pub record Holds (v : BitName → Bool) (o : Option Part) : Type 0 where
  pub at : (row : ℕ) (c : List Lit) → option_and_then (λ p. part_clause p row) o ≡ Some c → clause_holds v c ≡ true

module _ (v : BitName → Bool) where
  pub no_part : Holds v None
  no_part = record { at = λ row c e. cc }

  pub either : (b : Bool) (x y : Option Part) → (b ≡ true → Holds v x) → (b ≡ false → Holds v y) → Holds v (cond b x y)
  either true x y f g = f refl
  either false x y f g = g refl

  pub when_holds : (b : Bool) (p : Part) → (b ≡ true → Holds v (Some p)) → Holds v (when b p)
  when_holds b p f = either b (Some p) None f (λ e. no_part)

  pub unit_holds : (p : Lit) → lit_holds v p ≡ true → Holds v (Some (UnitPart p))
  unit_holds p e = record { at = gate_sound v unit_rows (p ∷ []) (ap (λ b. all_hold unit_rows (b ∷ [])) e) }

  pub same_holds : (x o : Lit) → lit_holds v o ≡ lit_holds v x → Holds v (Some (Same x o))
  same_holds x o e = record { at = output_sound v same_rows (x ∷ o ∷ []) (ap (λ b. all_hold same_rows (lit_holds v x ∷ b ∷ [])) e ∙ same_at (lit_holds v x)) }

  pub and_holds : (x y o : Lit) → lit_holds v o ≡ (lit_holds v x && lit_holds v y) → Holds v (Some (And x y o))
  and_holds x y o e = record { at = output_sound v and_rows (x ∷ y ∷ o ∷ []) (ap (λ b. all_hold and_rows (lit_holds v x ∷ lit_holds v y ∷ b ∷ [])) e ∙ and_at (lit_holds v x) (lit_holds v y)) }

  pub or_holds : (x y o : Lit) → lit_holds v o ≡ (lit_holds v x || lit_holds v y) → Holds v (Some (Or x y o))
  or_holds x y o e = record { at = output_sound v or_rows (x ∷ y ∷ o ∷ []) (ap (λ b. all_hold or_rows (lit_holds v x ∷ lit_holds v y ∷ b ∷ [])) e ∙ or_at (lit_holds v x) (lit_holds v y)) }

  pub xor_holds : (x y o : Lit) → lit_holds v o ≡ exclusive (lit_holds v x) (lit_holds v y) → Holds v (Some (Xor x y o))
  xor_holds x y o e = record { at = output_sound v xor_rows (x ∷ y ∷ o ∷ []) (ap (λ b. all_hold xor_rows (lit_holds v x ∷ lit_holds v y ∷ b ∷ [])) e ∙ xor_at (lit_holds v x) (lit_holds v y)) }

  pub apart_holds : (x y o : Lit) → lit_holds v o ≡ exclusive (lit_holds v x) (lit_holds v y) → Holds v (Some (Apart x y o))
  apart_holds x y o e = record { at = output_sound v apart_rows (x ∷ y ∷ o ∷ []) (ap (λ b. all_hold apart_rows (lit_holds v x ∷ lit_holds v y ∷ b ∷ [])) e ∙ apart_at (lit_holds v x) (lit_holds v y)) }

  pub equal_holds : (x y o : Lit) → (lit_holds v o ≡ true → lit_holds v x ≡ lit_holds v y) → Holds v (Some (Equal x y o))
  equal_holds x y o f = record { at = output_sound v equal_rows (x ∷ y ∷ o ∷ []) (equal_at (lit_holds v x) (lit_holds v y) (lit_holds v o) f) }

  pub sum_holds : (x y z o : Lit) → lit_holds v o ≡ parity (lit_holds v x) (lit_holds v y) (lit_holds v z) → Holds v (Some (Sum x y z o))
  sum_holds x y z o e = record { at = gate_sound v sum_rows (x ∷ y ∷ z ∷ o ∷ []) (ap (λ b. all_hold sum_rows (lit_holds v x ∷ lit_holds v y ∷ lit_holds v z ∷ b ∷ [])) e ∙ sum_at (lit_holds v x) (lit_holds v y) (lit_holds v z)) }

  pub maj_holds : (x y z o : Lit) → lit_holds v o ≡ majority (lit_holds v x) (lit_holds v y) (lit_holds v z) → Holds v (Some (Maj x y z o))
  maj_holds x y z o e = record { at = gate_sound v maj_rows (x ∷ y ∷ z ∷ o ∷ []) (ap (λ b. all_hold maj_rows (lit_holds v x ∷ lit_holds v y ∷ lit_holds v z ∷ b ∷ [])) e ∙ maj_at (lit_holds v x) (lit_holds v y) (lit_holds v z)) }

  pub mux_holds : (s x y o : Lit) → lit_holds v o ≡ chosen (lit_holds v s) (lit_holds v x) (lit_holds v y) → Holds v (Some (Mux s x y o))
  mux_holds s x y o e = record { at = gate_sound v mux_rows (s ∷ x ∷ y ∷ o ∷ []) (ap (λ b. all_hold mux_rows (lit_holds v s ∷ lit_holds v x ∷ lit_holds v y ∷ b ∷ [])) e ∙ mux_at (lit_holds v s) (lit_holds v x) (lit_holds v y)) }

  pub any_holds : (o : Lit) (i w : ℕ) → clause_holds v (any_clause o i w) ≡ true → Holds v (Some (Any o i w))
  any_holds o i w h = record { at = λ row c e. by (eqb row 0) c e }
    where
      by : (b : Bool) (c : List Lit) → cond b (Some (any_clause o i w)) None ≡ Some c → clause_holds v c ≡ true
      by true c e = let same : any_clause o i w ≡ c = cc in ap (clause_holds v) (sym same) ∙ h
      by false c e = cc

  -- ---- the parts of a sum

  module _ (i w : ℕ) (x y : Lit) (first : Bool) (a b j : ℕ) (reads_x : j < w → lit_holds v x ≡ has_bit a j) (reads_y : j < w → lit_holds v y ≡ has_bit b j) (carry : (k : ℕ) → v (Bit i 1 k) ≡ carries (bit first) a b k) where
    bit_le : (f : Bool) → bit f ≤ 1
    bit_le true = omega arith
    bit_le false = omega arith

    first_bit : (f : Bool) → ((k : ℕ) → v (Bit i 1 k) ≡ carries (bit f) a b k) → lit_holds v (signed_by f (bit_of i 1 0)) ≡ true
    first_bit true c = bit_lit v i 1 0 ∙ c 0 ∙ carry_one a b
    first_bit false c = opposite_lit v (bit_of i 1 0) ∙ ap not (bit_lit v i 1 0 ∙ c 0 ∙ carry_none a b)

    pub carry_holds : j < w → Holds v (Some (Maj x y (bit_of i 1 j) (bit_of i 1 (j + 1))))
    carry_holds h =
        maj_holds x y (bit_of i 1 j) (bit_of i 1 (j + 1))
        (bit_lit v i 1 (j + 1) ∙ carry (j + 1) ∙ carry_bit (bit first) a b j (bit_le first)
        ∙ ap (λ u. majority u (has_bit b j) (carries (bit first) a b j)) (sym (reads_x h))
        ∙ ap (λ u. majority (lit_holds v x) u (carries (bit first) a b j)) (sym (reads_y h))
        ∙ ap (λ u. majority (lit_holds v x) (lit_holds v y) u) (sym (bit_lit v i 1 j ∙ carry j)))

    pub adder_holds : (part : ℕ) → (j < w → v (Bit i 0 j) ≡ has_bit (a + b + bit first) j) → Holds v (adder i w x y first part j)
    adder_holds part reads_o =
        either (eqb part 0) _ _
        (λ e. when_holds (ltb j w) _ (λ l. let h = ltb-true j w l in
        sum_holds x y (bit_of i 1 j) (own i j)
        (bit_lit v i 0 j ∙ reads_o h ∙ sum_bit (bit first) a b j (bit_le first)
        ∙ ap (λ u. parity u (has_bit b j) (carries (bit first) a b j)) (sym (reads_x h))
        ∙ ap (λ u. parity (lit_holds v x) u (carries (bit first) a b j)) (sym (reads_y h))
        ∙ ap (λ u. parity (lit_holds v x) (lit_holds v y) u) (sym (bit_lit v i 1 j ∙ carry j)))))
        (λ e. either (eqb part 1) _ _
        (λ f. when_holds (ltb j w) _ (λ l. carry_holds (ltb-true j w l)))
        (λ f. either (eqb part 2) _ _
        (λ g. when_holds (eqb j 0) _ (λ l. unit_holds (signed_by first (bit_of i 1 0)) (first_bit first carry)))
        (λ g. no_part)))
