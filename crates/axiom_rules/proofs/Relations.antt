-- The parts of comparisons and equalities.
use Rattle.std.proofs.Common.{◌≡◌, ℕ, zero, suc, ◌+◌, ◌/◌, ◌^◌, ◌<◌, ◌≤◌, Bool, true, false, not, cond, leb, ltb, eqb, map, refl, ap, sym, ◌∙◌, inl, inr, arith}
use Rattle.std.specs.List.{list_any, range_with_len}
use Rattle.std.proofs.lemmas.Bool.{or_left, or_right, or_parts, cases_eq, eq-eqb, eqb-true, ltb-true}
use Rattle.std.proofs.lemmas.Nat.Bits.{same_from_bits_below}
use Rattle.clause_core.specs.declared.BitName.{BitName}
use Rattle.clause_core.specs.declared.BitName.TheVariants.{Bit}
use Rattle.clause_core.specs.declared.Lit.{Lit}
use Rattle.clause_core.specs.Clauses.{opposite_of, lit_holds, clause_holds}
use Rattle.gate_tables.specs.Gates.{exclusive}
use Rattle.bv_bits.specs.Bits.{bit}
use Rattle.axiom_rules.specs.Parts.{bit_of, own, any_clause, signed_by, relation, equality}
use Rattle.bv_bits.specs.BitLaws.{has_bit}
use Rattle.axiom_rules.specs.Truth.{carries, complement}
use Rattle.axiom_rules.proofs.Numbers.{odd_of, carry_one}
use Rattle.axiom_rules.proofs.Words.{complement_bit, carries_out}
use Rattle.axiom_rules.proofs.PartLemmas.{Holds, no_part, either, when_holds, unit_holds, same_holds, equal_holds, apart_holds, any_holds, carry_holds, bit_lit, opposite_lit}

module _ (v : BitName → Bool) where
  pub signed_lit : (b : Bool) (p : Lit) → lit_holds v (signed_by b p) ≡ cond b (lit_holds v p) (not (lit_holds v p))
  signed_lit true p = refl
  signed_lit false p = opposite_lit v p

  -- p >= q (`least`) or p < q, by the last carry of p + not q + 1
  pub relation_holds : (i w : ℕ) (p q : Lit) (least : Bool) (a b j : ℕ) → (j < w → lit_holds v p ≡ has_bit a j) → (j < w → lit_holds v q ≡ has_bit b j) → a < 2 ^ w → b < 2 ^ w → ((k : ℕ) → v (Bit i 1 k) ≡ carries 1 a (complement w b) k) → (part : ℕ) → v (Bit i 0 0) ≡ cond least (leb b a) (not (leb b a)) → Holds v (relation i w p q least part j)
  relation_holds i w p q least a b j reads_p reads_q fa fb carry part reads_o =
      either v (eqb part 1) _ _
      (λ e. when_holds v (ltb j w) _ (λ l.
      carry_holds v i w p (opposite_of q) true a (complement w b) j reads_p
      (λ h. opposite_lit v q ∙ ap not (reads_q h) ∙ sym (complement_bit w b j fb h)) carry (ltb-true j w l)))
      (λ e. either v (eqb part 2) _ _
      (λ f. when_holds v (eqb j 0) _ (λ l. unit_holds v (bit_of i 1 0) (bit_lit v i 1 0 ∙ carry 0 ∙ carry_one a (complement w b))))
      (λ f. either v (eqb part 3) _ _
      (λ g. when_holds v (eqb j 0) _ (λ l.
      same_holds v (signed_by least (bit_of i 1 w)) (own i 0)
      (bit_lit v i 0 0 ∙ reads_o
      ∙ ap (λ u. cond least u (not u)) (sym (bit_lit v i 1 w ∙ carry w ∙ carries_out w a b fa fb))
      ∙ sym (signed_lit least (bit_of i 1 w)))))
      (λ g. no_part v)))

  none_below : (i n a k : ℕ) → list_any (lit_holds v) (map (bit_of i 1) (range_with_len a n)) ≡ false → a ≤ k → k < a + n → v (Bit i 1 k) ≡ false
  none_below i zero a k h p q = absurd (omega arith)
  none_below i (suc n) a k h p q =
      let parts = or_parts (lit_holds v (bit_of i 1 a)) (list_any (lit_holds v) (map (bit_of i 1) (range_with_len (a + 1) n))) h in
      elim (cases_eq a k) [
        | inl e ↦ ap (λ m. v (Bit i 1 m)) (sym e) ∙ sym (bit_lit v i 1 a) ∙ parts.0
        | inr ne ↦
            let more : a + 1 ≤ k = omega arith in
            let less : k < a + 1 + n = omega arith in
            none_below i n (a + 1) k parts.1 more less
      ]

  same_if : (s t : Bool) → exclusive s t ≡ false → s ≡ t
  same_if true true e = refl
  same_if true false e = cc
  same_if false true e = cc
  same_if false false e = refl

  -- x and y are equal, or they differ at a bit
  equal_or_apart : (o : Lit) (i w x y : ℕ) → x < 2 ^ w → y < 2 ^ w → ((k : ℕ) → v (Bit i 1 k) ≡ exclusive (has_bit x k) (has_bit y k)) → lit_holds v o ≡ eqb x y → (b : Bool) → list_any (lit_holds v) (map (bit_of i 1) (range_with_len 0 w)) ≡ b → clause_holds v (any_clause o i w) ≡ true
  equal_or_apart o i w x y fx fy differ reads_o true e = or_right (lit_holds v o) (list_any (lit_holds v) (map (bit_of i 1) (range_with_len 0 w))) e
  equal_or_apart o i w x y fx fy differ reads_o false e =
      let same : x ≡ y = same_from_bits_below w x y fx fy (λ k h.
      let below : k < 0 + w = omega arith in
      let bits = same_if (has_bit x k) (has_bit y k) (sym (differ k) ∙ none_below i w 0 k e (omega arith) below) in
      odd_of (x / 2 ^ k) (has_bit x k) refl ∙ ap bit bits ∙ sym (odd_of (y / 2 ^ k) (has_bit y k) refl)) in
      or_left (lit_holds v o) (list_any (lit_holds v) (map (bit_of i 1) (range_with_len 0 w))) (reads_o ∙ eq-eqb x y same)

  pub equality_holds : (i w : ℕ) (p q o : Lit) (x y j : ℕ) → (j < w → lit_holds v p ≡ has_bit x j) → (j < w → lit_holds v q ≡ has_bit y j) → x < 2 ^ w → y < 2 ^ w → ((k : ℕ) → v (Bit i 1 k) ≡ exclusive (has_bit x k) (has_bit y k)) → (part : ℕ) → lit_holds v o ≡ eqb x y → Holds v (equality i w p q o part j)
  equality_holds i w p q o x y j reads_p reads_q fx fy differ part reads_o =
      either v (eqb part 0) _ _
      (λ e. when_holds v (ltb j w) _ (λ l. let h = ltb-true j w l in
      equal_holds v p q o (λ t. reads_p h ∙ ap (λ n. has_bit n j) (eqb-true x y (sym reads_o ∙ t)) ∙ sym (reads_q h))))
      (λ e. either v (eqb part 1) _ _
      (λ f. when_holds v (ltb j w) _ (λ l. let h = ltb-true j w l in
      apart_holds v p q (bit_of i 1 j)
      (bit_lit v i 1 j ∙ differ j ∙ ap (λ u. exclusive u (has_bit y j)) (sym (reads_p h)) ∙ ap (λ u. exclusive (lit_holds v p) u) (sym (reads_q h)))))
      (λ f. either v (eqb part 2) _ _
      (λ g. when_holds v (eqb j 0) _ (λ l. any_holds v o i w (equal_or_apart o i w x y fx fy differ reads_o (list_any (lit_holds v) (map (bit_of i 1) (range_with_len 0 w))) refl)))
      (λ g. no_part v)))
