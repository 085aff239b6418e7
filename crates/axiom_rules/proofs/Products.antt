-- The parts of products and shifts.
use Rattle.std.proofs.Common.{◌≡◌, ℕ, zero, suc, ◌+◌, ◌-◌, ◌*◌, ◌/◌, ◌%◌, ◌^◌, ◌<◌, Bool, true, false, not, ◌&&◌, cond, ltb, eqb, refl, ap, sym, ◌∙◌, arith}
use Rattle.std.specs.Int.{bit_at}
use Rattle.std.proofs.lemmas.Bool.{and_parts, eqb-true, ltb-true}
use Rattle.std.proofs.lemmas.Nat.Bits.{bit_at-zero}
use Rattle.std.proofs.Math.Nat.{mod-eq_of_lt}
use Rattle.clause_core.specs.declared.BitName.{BitName}
use Rattle.clause_core.specs.declared.BitName.TheVariants.{Truth, Bit}
use Rattle.clause_core.specs.declared.Lit.{Lit}
use Rattle.clause_core.specs.Clauses.{opposite_of, lit_holds}
use Rattle.gate_tables.specs.Gates.{parity, majority, chosen}
use Rattle.axiom_rules.specs.Parts.{bit_of, own, never, sum_before, product_row, product, stage, shifted}
use Rattle.bv_bits.specs.BitLaws.{has_bit}
use Rattle.axiom_rules.specs.Truth.{carries, product_layer, up}
use Rattle.axiom_rules.proofs.Numbers.{sum_bit, carry_bit, carry_none}
use Rattle.axiom_rules.proofs.Shifts.{row_bit, rows_more}
use Rattle.axiom_rules.proofs.PartLemmas.{Holds, either, when_holds, unit_holds, same_holds, and_holds, sum_holds, maj_holds, mux_holds, bit_lit, opposite_lit, never_lit}

module _ (v : BitName → Bool) (t : v Truth ≡ true) (i a b w x y : ℕ) (reads_a : (k : ℕ) → v (Bit a 0 k) ≡ has_bit x k) (reads_b : (k : ℕ) → v (Bit b 0 k) ≡ has_bit y k) where
  choose : (c : Bool) (p q : Lit) (s : Bool) → (c ≡ true → lit_holds v p ≡ s) → (c ≡ false → lit_holds v q ≡ s) → lit_holds v (cond c p q) ≡ s
  choose true p q s f g = f refl
  choose false p q s f g = g refl

  -- ---- products

  module _ (layers : (l k : ℕ) → 0 < l → v (Bit i l k) ≡ product_layer x y ((l - 1) / 3) ((l - 1) % 3) k) where
    layer_at : (r l kind k : ℕ) → 0 < l → (l - 1) / 3 ≡ r → (l - 1) % 3 ≡ kind → lit_holds v (bit_of i l k) ≡ product_layer x y r kind k
    layer_at r l kind k p e f = bit_lit v i l k ∙ layers l k p ∙ ap (λ q. product_layer x y q ((l - 1) % 3) k) e ∙ ap (λ q. product_layer x y r q k) f

    row_lit : (r k : ℕ) → lit_holds v (bit_of i (3 * r + 1) k) ≡ has_bit (x * (bit_at y r * 2 ^ r)) k
    row_lit r k = layer_at r (3 * r + 1) 0 k (omega arith) (omega arith) (omega arith)

    sum_lit : (r k : ℕ) → lit_holds v (bit_of i (3 * r + 2) k) ≡ has_bit (x * (y % 2 ^ (r + 1))) k
    sum_lit r k = layer_at r (3 * r + 2) 1 k (omega arith) (omega arith) (omega arith)

    carry_lit : (r k : ℕ) → lit_holds v (bit_of i (3 * r + 3) k) ≡ carries 0 (x * (y % 2 ^ r)) (x * (bit_at y r * 2 ^ r)) k
    carry_lit r k = layer_at r (3 * r + 3) 2 k (omega arith) (omega arith) (omega arith)

    nothing : (k : ℕ) → false ≡ has_bit (x * (y % 2 ^ 0)) k
    nothing k =
        let none : x * (y % 1) ≡ x * 0 = ap (λ n. x * n) (let z : y % 1 ≡ 0 = omega arith in z) in
        let zero_ : x * 0 ≡ 0 = omega arith in
        sym (ap (λ n. eqb n 1) (bit_at-zero k)) ∙ ap (λ n. has_bit n k) (sym (none ∙ zero_))

    before_lit : (r k : ℕ) → lit_holds v (sum_before i r k) ≡ has_bit (x * (y % 2 ^ r)) k
    before_lit zero k = never_lit v t ∙ nothing k
    before_lit (suc r) k =
        choose (eqb (suc r) 0) never (bit_of i (3 * suc r - 1) k) (has_bit (x * (y % 2 ^ suc r)) k)
        (λ e. let no = eqb-true (suc r) 0 e in absurd (omega arith))
        (λ e.
        let same : 3 * suc r - 1 ≡ 3 * r + 2 = omega arith in
        let more : r + 1 ≡ suc r = omega arith in
        ap (λ l. lit_holds v (bit_of i l k)) same ∙ sum_lit r k ∙ ap (λ n. has_bit (x * (y % 2 ^ n)) k) more)

    moved_lit : (r j : ℕ) → lit_holds v (cond (ltb j r) never (own a (j - r))) ≡ up x r j
    moved_lit r j = by (ltb j r)
      where
        by : (c : Bool) → lit_holds v (cond c never (own a (j - r))) ≡ cond c false (has_bit x (j - r))
        by true = never_lit v t
        by false = bit_lit v a 0 (j - r) ∙ reads_a (j - r)

    row_part : (r kind j : ℕ) → Holds v (product_row i a b w r kind j)
    row_part r kind j =
        either v (eqb kind 0) _ _
        (λ e. when_holds v (ltb j w) _ (λ l.
        and_holds v (cond (ltb j r) never (own a (j - r))) (own b r) (bit_of i (3 * r + 1) j)
        (row_lit r j ∙ row_bit x y r j
        ∙ ap (λ u. u && has_bit y r) (sym (moved_lit r j))
        ∙ ap (λ u. lit_holds v (cond (ltb j r) never (own a (j - r))) && u) (sym (bit_lit v b 0 r ∙ reads_b r)))))
        (λ e. either v (eqb kind 1) _ _
        (λ f. when_holds v (ltb j w) _ (λ l.
        sum_holds v (sum_before i r j) (bit_of i (3 * r + 1) j) (bit_of i (3 * r + 3) j) (bit_of i (3 * r + 2) j)
        (sum_lit r j ∙ ap (λ n. has_bit n j) (rows_more x y r) ∙ sum_bit 0 (x * (y % 2 ^ r)) (x * (bit_at y r * 2 ^ r)) j (omega arith)
        ∙ ap (λ u. parity u (has_bit (x * (bit_at y r * 2 ^ r)) j) (carries 0 (x * (y % 2 ^ r)) (x * (bit_at y r * 2 ^ r)) j)) (sym (before_lit r j))
        ∙ ap (λ u. parity (lit_holds v (sum_before i r j)) u (carries 0 (x * (y % 2 ^ r)) (x * (bit_at y r * 2 ^ r)) j)) (sym (row_lit r j))
        ∙ ap (λ u. parity (lit_holds v (sum_before i r j)) (lit_holds v (bit_of i (3 * r + 1) j)) u) (sym (carry_lit r j)))))
        (λ f. either v (eqb kind 2) _ _
        (λ g. when_holds v (ltb j w) _ (λ l.
        maj_holds v (sum_before i r j) (bit_of i (3 * r + 1) j) (bit_of i (3 * r + 3) j) (bit_of i (3 * r + 3) (j + 1))
        (carry_lit r (j + 1) ∙ carry_bit 0 (x * (y % 2 ^ r)) (x * (bit_at y r * 2 ^ r)) j (omega arith)
        ∙ ap (λ u. majority u (has_bit (x * (bit_at y r * 2 ^ r)) j) (carries 0 (x * (y % 2 ^ r)) (x * (bit_at y r * 2 ^ r)) j)) (sym (before_lit r j))
        ∙ ap (λ u. majority (lit_holds v (sum_before i r j)) u (carries 0 (x * (y % 2 ^ r)) (x * (bit_at y r * 2 ^ r)) j)) (sym (row_lit r j))
        ∙ ap (λ u. majority (lit_holds v (sum_before i r j)) (lit_holds v (bit_of i (3 * r + 1) j)) u) (sym (carry_lit r j)))))
        (λ g. when_holds v (eqb j 0) _ (λ l.
        unit_holds v (opposite_of (bit_of i (3 * r + 3) 0))
        (opposite_lit v (bit_of i (3 * r + 3) 0) ∙ ap not (carry_lit r 0 ∙ carry_none (x * (y % 2 ^ r)) (x * (bit_at y r * 2 ^ r))))))))

    pub product_holds : (part j : ℕ) → y < 2 ^ w → (j < w → v (Bit i 0 j) ≡ has_bit (x * y) j) → Holds v (product i a b w part j)
    product_holds part j fy reads_o =
        either v (ltb (part / 4) w) _ _
        (λ e. row_part (part / 4) (part % 4) j)
        (λ e. when_holds v (eqb part (4 * w) && ltb j w) _ (λ l.
        let h : j < w = ltb-true j w (and_parts (eqb part (4 * w)) (ltb j w) l).1 in
        let same : 3 * w - 1 ≡ 3 * (w - 1) + 2 = omega arith in
        let all : w - 1 + 1 ≡ w = omega arith in
        same_holds v (bit_of i (3 * w - 1) j) (own i j)
        (bit_lit v i 0 j ∙ reads_o h
        ∙ ap (λ n. has_bit (x * n) j) (sym (mod-eq_of_lt fy))
        ∙ ap (λ n. has_bit (x * (y % 2 ^ n)) j) (sym all)
        ∙ sym (ap (λ l. lit_holds v (bit_of i l j)) same ∙ sum_lit (w - 1) j))))

  -- ---- shifts

  module _ (m : ℕ) (at : ℕ → ℕ → Bool) (whole : (k : ℕ) → k < w → at 0 k ≡ has_bit x k) (layers : (l k : ℕ) → 0 < l → v (Bit i l k) ≡ at (y % 2 ^ l) k) where
    pub stage_lit : (s k : ℕ) → k < w → lit_holds v (stage i a s k) ≡ at (y % 2 ^ s) k
    stage_lit zero k h = bit_lit v a 0 k ∙ reads_a k ∙ sym (whole k h) ∙ ap (λ n. at n k) (let z : 0 ≡ y % 1 = omega arith in z)
    stage_lit (suc s) k h =
        choose (eqb (suc s) 0) (own a k) (bit_of i (suc s) k) (at (y % 2 ^ suc s) k)
        (λ e. let no = eqb-true (suc s) 0 e in absurd (omega arith))
        (λ e. bit_lit v i (suc s) k ∙ layers (suc s) k (omega arith))

    last_lit : (n j : ℕ) → y < 2 ^ n → v (Bit i 0 j) ≡ at y j → v (Bit i 0 j) ≡ v (Bit i n j)
    last_lit zero j fy o = refl
    last_lit (suc n) j fy o = o ∙ ap (λ k. at k j) (sym (mod-eq_of_lt fy)) ∙ sym (layers (suc n) j (omega arith))

    pub shifted_holds : (moved : Lit) (part j : ℕ) → j < w → y < 2 ^ m → v (Bit i 0 j) ≡ at y j → at (y % 2 ^ (part + 1)) j ≡ chosen (has_bit y part) (lit_holds v moved) (at (y % 2 ^ part) j) → Holds v (shifted i a b m moved part j)
    shifted_holds moved part j h fy reads_o more =
        either v (ltb part m) _ _
        (λ e.
        mux_holds v (own b part) moved (stage i a part j) (bit_of i (part + 1) j)
        (bit_lit v i (part + 1) j ∙ layers (part + 1) j (omega arith) ∙ more
        ∙ ap (λ u. chosen u (lit_holds v moved) (at (y % 2 ^ part) j)) (sym (bit_lit v b 0 part ∙ reads_b part))
        ∙ ap (λ u. chosen (lit_holds v (own b part)) (lit_holds v moved) u) (sym (stage_lit part j h))))
        (λ e. when_holds v (eqb part m) _ (λ l.
        same_holds v (bit_of i m j) (own i j) (bit_lit v i 0 j ∙ last_lit m j fy reads_o ∙ sym (bit_lit v i m j))))
