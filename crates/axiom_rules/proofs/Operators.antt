-- The parts of each operator are true where the own bits are the numbers'.
use Rattle.std.proofs.Common.{◌≡◌, ℕ, zero, suc, ◌+◌, ◌-◌, ◌*◌, ◌/◌, ◌%◌, ◌^◌, ◌<◌, ◌≤◌, Bool, true, false, not, ◌&&◌, ◌||◌, cond, leb, ltb, eqb, min, max, bit_and, bit_or, bit_xor, ℤ, pos, negsuc, [], ◌∷◌, Option, Some, None, refl, ap, sym, ◌∙◌, subst, inl, inr, arith}
use Rattle.std.specs.Prelude.{int_lt, int_le}
use Rattle.std.specs.Int.{bit_at, int_shr}
use Rattle.std.proofs.lemmas.Bool.{and_parts, cases_lt, eqb-true, ltb-true, ltb-false, leb-true, lt-ltb, le-ltb, le-leb, lt-leb, cond-true, cond-false}
use Rattle.std.proofs.lemmas.Nat.{shr-shr}
use Rattle.std.proofs.lemmas.Nat.Bits.{bit_at_and, bit_at_or, bit_at_xor}
use Rattle.bv_bits.specs.declared.Op.{Op}
use Rattle.bv_bits.specs.declared.Op.TheVariants.{Not, Neg, And as AndOp, Or as OrOp, Xor as XorOp, Imp, Add, Sub as SubOp, Mul, Shl, LShr, AShr, Eq, Ne, ULt, ULe, UGt, UGe, SLt, SLe, SGt, SGe, Concat, Extract, ZExt, SExt}
use Rattle.bv_bits.specs.Bits.{bit, signed, wrapped, some_if, result_width_of, number_of}
use Rattle.clause_core.specs.declared.BitName.{BitName}
use Rattle.clause_core.specs.declared.BitName.TheVariants.{Truth, Bit}
use Rattle.clause_core.specs.declared.Lit.{Lit}
use Rattle.clause_core.specs.Clauses.{opposite_of, lit_holds}
use Rattle.gate_tables.specs.Gates.{exclusive}
use Rattle.axiom_rules.specs.declared.part.Part.{Part}
use Rattle.axiom_rules.specs.Parts.{own, never, top_negated, only, stage, from_below, from_above, within}
use Rattle.axiom_rules.specs.Axioms.{one_part, two_part}
use Rattle.bv_bits.specs.BitLaws.{has_bit}
use Rattle.axiom_rules.specs.Truth.{complement, turned, up, down, layer_of}
use Rattle.axiom_rules.proofs.Numbers.{odd_by, odd_of, cut_bit}
use Rattle.axiom_rules.proofs.Words.{complement_bit, above_bit, join_bit, turned_bit}
use Rattle.axiom_rules.proofs.Shifts.{up_more, down_more, down_top, shl_bit, lshr_bit}
use Rattle.axiom_rules.proofs.Signs.{signed_lt, sext_bit, ashr_bit, turned_fits}
use Rattle.axiom_rules.proofs.PartLemmas.{Holds, no_part, either, when_holds, same_holds, and_holds, or_holds, xor_holds, adder_holds, bit_lit, opposite_lit, never_lit}
use Rattle.axiom_rules.proofs.Relations.{relation_holds, equality_holds}
use Rattle.axiom_rules.proofs.Products.{product_holds, stage_lit, shifted_holds}

-- ---- widths

pub some_true : (b : Bool) (w width : ℕ) → some_if b w ≡ Some width → b ≡ true
some_true true w width e = refl
some_true false w width e = cc

second_fits : (w m k width y : ℕ) → some_if (eqb w m) k ≡ Some width → y < 2 ^ m → y < 2 ^ w
second_fits w m k width y e h = subst (λ n. y < 2 ^ n) (sym (eqb-true w m (some_true (eqb w m) k width e))) h

-- ---- tests

truth_bit : (b : Bool) → has_bit (bit b) 0 ≡ b
truth_bit true = refl
truth_bit false = refl

not_leb : (a b : ℕ) → ltb a b ≡ not (leb b a)
not_leb a b =
    elim (cases_lt a b) [
      | inl lt ↦ lt-ltb a b lt ∙ ap not (sym (lt-leb b a lt))
      | inr ge ↦ le-ltb a b ge ∙ ap not (sym (le-leb b a ge))
    ]

not_ltb : (a b : ℕ) → leb a b ≡ not (ltb b a)
not_ltb a b =
    elim (cases_lt b a) [
      | inl lt ↦ lt-leb a b lt ∙ ap not (sym (lt-ltb b a lt))
      | inr ge ↦ le-leb a b ge ∙ ap not (sym (le-ltb b a ge))
    ]

not_int_lt : (a b : ℤ) → int_le a b ≡ not (int_lt b a)
not_int_lt (pos a) (pos b) = not_ltb a b
not_int_lt (pos a) (negsuc b) = refl
not_int_lt (negsuc a) (pos b) = refl
not_int_lt (negsuc a) (negsuc b) = not_ltb b a

signed_below : (w x y : ℕ) → 0 < w → x < 2 ^ w → y < 2 ^ w → int_lt (signed w x) (signed w y) ≡ not (leb (turned w y) (turned w x))
signed_below w x y p fx fy = signed_lt w x y p fx fy ∙ not_leb (turned w x) (turned w y)

signed_least : (w x y : ℕ) → 0 < w → x < 2 ^ w → y < 2 ^ w → int_le (signed w x) (signed w y) ≡ leb (turned w x) (turned w y)
signed_least w x y p fx fy = not_int_lt (signed w x) (signed w y) ∙ ap not (signed_lt w y x p fy fx) ∙ sym (not_ltb (turned w x) (turned w y))

-- ---- bit by bit

min_bit : (p q : Bool) → min (bit p) (bit q) ≡ bit (p && q)
min_bit true true = refl
min_bit true false = refl
min_bit false true = refl
min_bit false false = refl

max_bit : (p q : Bool) → max (bit p) (bit q) ≡ bit (p || q)
max_bit true true = refl
max_bit true false = refl
max_bit false true = refl
max_bit false false = refl

xor_bit : (p q : Bool) → (bit p + bit q) % 2 ≡ bit (exclusive p q)
xor_bit true true = refl
xor_bit true false = refl
xor_bit false true = refl
xor_bit false false = refl

and_bits : (x y j : ℕ) → has_bit (bit_and x y) j ≡ (has_bit x j && has_bit y j)
and_bits x y j = odd_by (bit_and x y / 2 ^ j) (has_bit x j && has_bit y j)
    (bit_at_and x y j ∙ ap (λ n. min n (bit_at y j)) (odd_of (x / 2 ^ j) (has_bit x j) refl) ∙ ap (λ n. min (bit (has_bit x j)) n) (odd_of (y / 2 ^ j) (has_bit y j) refl) ∙ min_bit (has_bit x j) (has_bit y j))

or_bits : (x y j : ℕ) → has_bit (bit_or x y) j ≡ (has_bit x j || has_bit y j)
or_bits x y j = odd_by (bit_or x y / 2 ^ j) (has_bit x j || has_bit y j)
    (bit_at_or x y j ∙ ap (λ n. max n (bit_at y j)) (odd_of (x / 2 ^ j) (has_bit x j) refl) ∙ ap (λ n. max (bit (has_bit x j)) n) (odd_of (y / 2 ^ j) (has_bit y j) refl) ∙ max_bit (has_bit x j) (has_bit y j))

xor_bits : (x y j : ℕ) → has_bit (bit_xor x y) j ≡ exclusive (has_bit x j) (has_bit y j)
xor_bits x y j = odd_by (bit_xor x y / 2 ^ j) (exclusive (has_bit x j) (has_bit y j))
    (bit_at_xor x y j ∙ ap (λ n. (n + bit_at y j) % 2) (odd_of (x / 2 ^ j) (has_bit x j) refl) ∙ ap (λ n. (bit (has_bit x j) + n) % 2) (odd_of (y / 2 ^ j) (has_bit y j) refl) ∙ xor_bit (has_bit x j) (has_bit y j))

imp_bits : (x y : ℕ) → x < 2 → y < 2 → has_bit (cond (eqb x 1 && eqb y 0) 0 1) 0 ≡ (not (has_bit x 0) || has_bit y 0)
imp_bits zero zero p q = refl
imp_bits zero (suc zero) p q = refl
imp_bits (suc zero) zero p q = refl
imp_bits (suc zero) (suc zero) p q = refl
imp_bits zero (suc (suc y)) p q = absurd (omega arith)
imp_bits (suc zero) (suc (suc y)) p q = absurd (omega arith)
imp_bits (suc (suc x)) y p q = absurd (omega arith)

pub lone_bit : (x : ℕ) → x < 2 → has_bit x 0 ≡ eqb x 1
lone_bit zero p = refl
lone_bit (suc zero) p = refl
lone_bit (suc (suc x)) p = absurd (omega arith)

pub cond_bit : (b : Bool) (x y j : ℕ) → has_bit (cond b x y) j ≡ cond b (has_bit x j) (has_bit y j)
cond_bit true x y j = refl
cond_bit false x y j = refl

module _ (v : BitName → Bool) (t : v Truth ≡ true) where
  pub only_holds : (w part j : ℕ) (p : Part) → (j < w → Holds v (Some p)) → Holds v (only w part j p)
  only_holds w part j p f = when_holds v (eqb part 0 && ltb j w) p (λ e. f (ltb-true j w (and_parts (eqb part 0) (ltb j w) e).1))

  within_holds : (w j : ℕ) (p : Option Part) → (j < w → Holds v p) → Holds v (within (ltb j w) p)
  within_holds w j p f = either v (ltb j w) p None (λ e. f (ltb-true j w e)) (λ e. no_part v)

  top_lit : (w j x : ℕ) (p : Lit) → 0 < w → j < w → lit_holds v p ≡ has_bit x j → lit_holds v (top_negated w j p) ≡ has_bit (turned w x) j
  top_lit w j x p positive h e = by (eqb (j + 1) w) ∙ sym (turned_bit w x j positive h)
    where
      by : (b : Bool) → lit_holds v (cond b (opposite_of p) p) ≡ cond b (not (has_bit x j)) (has_bit x j)
      by true = opposite_lit v p ∙ ap not e
      by false = e

  above_lit : (b : Bool) (p q : Lit) (u o : Bool) → (b ≡ true → lit_holds v p ≡ u) → lit_holds v q ≡ o → lit_holds v (cond b p q) ≡ cond b u o
  above_lit true p q u o e f = e refl
  above_lit false p q u o e f = f

  module _ (i a w x z width : ℕ) (positive : 0 < w) (fx : x < 2 ^ w) (reads_a : (k : ℕ) → v (Bit a 0 k) ≡ has_bit x k) (reads_i : (k : ℕ) → v (Bit i 0 k) ≡ has_bit z k) where
    a_lit : (k : ℕ) → lit_holds v (own a k) ≡ has_bit x k
    a_lit k = bit_lit v a 0 k ∙ reads_a k

    not_a : (k : ℕ) → lit_holds v (opposite_of (own a k)) ≡ not (has_bit x k)
    not_a k = opposite_lit v (own a k) ∙ ap not (a_lit k)

    i_lit : (k n : ℕ) → z ≡ n → lit_holds v (own i k) ≡ has_bit n k
    i_lit k n e = bit_lit v i 0 k ∙ reads_i k ∙ ap (λ q. has_bit q k) e

    o_bit : (k n : ℕ) → z ≡ n → v (Bit i 0 k) ≡ has_bit n k
    o_bit k n e = reads_i k ∙ ap (λ q. has_bit q k) e

    pub one_holds : (op : Op) → result_width_of op (w ∷ []) ≡ Some width → z ≡ number_of op (record { width = w; value = x } ∷ []) → ((l k : ℕ) → 0 < l → v (Bit i l k) ≡ layer_of op w x 0 l k) → (part j : ℕ) → Holds v (one_part op i a w part j)
    one_holds Not e is layers part j =
        only_holds w part j _ (λ h. same_holds v (opposite_of (own a j)) (own i j) (i_lit j (complement w x) is ∙ complement_bit w x j fx h ∙ sym (not_a j)))
    one_holds Neg e is layers part j =
        adder_holds v i w never (opposite_of (own a j)) true 0 (complement w x) j
        (λ h. never_lit v t ∙ zero_bit j)
        (λ h. not_a j ∙ sym (complement_bit w x j fx h))
        (λ k. layers 1 k (omega arith)) part
        (λ h.
        let same : 2 ^ w - x ≡ 0 + complement w x + 1 = omega arith in
        o_bit j ((2 ^ w - x) % 2 ^ w) is ∙ cut_bit w (2 ^ w - x) j h ∙ ap (λ n. has_bit n j) same)
      where
        zero_bit : (k : ℕ) → false ≡ has_bit 0 k
        zero_bit k = sym (above_bit 0 0 k (omega arith) (omega arith))
    one_holds (Extract hi lo) e is layers part j =
        only_holds (hi - lo + 1) part j _ (λ h.
        let turn : lo + j ≡ j + lo = omega arith in
        same_holds v (own a (j + lo)) (own i j)
        (i_lit j (x / 2 ^ lo % 2 ^ (hi - lo + 1)) is ∙ cut_bit (hi - lo + 1) (x / 2 ^ lo) j h ∙ ap (λ n. eqb (n % 2) 1) (shr-shr x lo j) ∙ ap (has_bit x) turn ∙ sym (a_lit (j + lo))))
    one_holds (ZExt to) e is layers part j =
        only_holds to part j _ (λ h. same_holds v (cond (ltb j w) (own a j) never) (own i j) (i_lit j x is ∙ by (ltb j w) refl))
      where
        by : (b : Bool) → ltb j w ≡ b → has_bit x j ≡ lit_holds v (cond b (own a j) never)
        by true q = sym (a_lit j)
        by false q = above_bit w x j fx (ltb-false j w q) ∙ sym (never_lit v t)
    one_holds (SExt to) e is layers part j =
        only_holds to part j _ (λ h.
        let wide : w ≤ to = leb-true w to (and_parts (leb w to) (leb to 128) (some_true (leb w to && leb to 128) to width e)).0 in
        same_holds v (own a (cond (ltb j w) j (w - 1))) (own i j)
        (i_lit j (wrapped to (signed w x)) is ∙ sext_bit w to x j positive wide h fx ∙ sym (a_lit (cond (ltb j w) j (w - 1)))))
    one_holds op e is layers part j = no_part v

    module _ (b m y : ℕ) (fy : y < 2 ^ m) (reads_b : (k : ℕ) → v (Bit b 0 k) ≡ has_bit y k) where
      b_lit : (k : ℕ) → lit_holds v (own b k) ≡ has_bit y k
      b_lit k = bit_lit v b 0 k ∙ reads_b k

      not_b : (k : ℕ) → lit_holds v (opposite_of (own b k)) ≡ not (has_bit y k)
      not_b k = opposite_lit v (own b k) ∙ ap not (b_lit k)

      up_whole : (k : ℕ) → k < w → up x 0 k ≡ has_bit x k
      up_whole k h =
          let none : 0 ≤ k = omega arith in
          let same : k - 0 ≡ k = omega arith in
          cond-false (ltb k 0) false (has_bit x (k - 0)) (le-ltb k 0 none) ∙ ap (has_bit x) same

      down_whole : (out : Bool) (k : ℕ) → k < w → down w out x 0 k ≡ has_bit x k
      down_whole out k h =
          let same : k + 0 ≡ k = omega arith in
          let less : k + 0 < w = omega arith in
          cond-true (ltb (k + 0) w) (has_bit x (k + 0)) out (lt-ltb (k + 0) w less) ∙ ap (has_bit x) same

      pub two_holds : (op : Op) → result_width_of op (w ∷ m ∷ []) ≡ Some width → z ≡ number_of op (record { width = w; value = x } ∷ record { width = m; value = y } ∷ []) → ((l k : ℕ) → 0 < l → v (Bit i l k) ≡ layer_of op w x y l k) → (part j : ℕ) → Holds v (two_part op i a b w m part j)
      two_holds AndOp e is layers part j =
          only_holds w part j _ (λ h. and_holds v (own a j) (own b j) (own i j)
          (i_lit j (bit_and x y) is ∙ and_bits x y j ∙ ap (λ u. u && has_bit y j) (sym (a_lit j)) ∙ ap (λ u. lit_holds v (own a j) && u) (sym (b_lit j))))
      two_holds OrOp e is layers part j =
          only_holds w part j _ (λ h. or_holds v (own a j) (own b j) (own i j)
          (i_lit j (bit_or x y) is ∙ or_bits x y j ∙ ap (λ u. u || has_bit y j) (sym (a_lit j)) ∙ ap (λ u. lit_holds v (own a j) || u) (sym (b_lit j))))
      two_holds XorOp e is layers part j =
          only_holds w part j _ (λ h. xor_holds v (own a j) (own b j) (own i j)
          (i_lit j (bit_xor x y) is ∙ xor_bits x y j ∙ ap (λ u. exclusive u (has_bit y j)) (sym (a_lit j)) ∙ ap (λ u. exclusive (lit_holds v (own a j)) u) (sym (b_lit j))))
      two_holds Imp e is layers part j =
          let ones = and_parts (eqb w 1) (eqb m 1) (some_true (eqb w 1 && eqb m 1) 1 width e) in
          let px : x < 2 = subst (λ n. x < 2 ^ n) (eqb-true w 1 ones.0) fx in
          let py : y < 2 = subst (λ n. y < 2 ^ n) (eqb-true m 1 ones.1) fy in
          only_holds 1 part j _ (λ h. or_holds v (opposite_of (own a 0)) (own b 0) (own i 0)
          (i_lit 0 (cond (eqb x 1 && eqb y 0) 0 1) is ∙ imp_bits x y px py ∙ ap (λ u. u || has_bit y 0) (sym (not_a 0)) ∙ ap (λ u. lit_holds v (opposite_of (own a 0)) || u) (sym (b_lit 0))))
      two_holds Add e is layers part j =
          adder_holds v i w (own a j) (own b j) false x y j (λ h. a_lit j) (λ h. b_lit j) (λ k. layers 1 k (omega arith)) part
          (λ h.
          let same : x + y ≡ x + y + 0 = omega arith in
          o_bit j ((x + y) % 2 ^ w) is ∙ cut_bit w (x + y) j h ∙ ap (λ n. has_bit n j) same)
      two_holds SubOp e is layers part j =
          let small = second_fits w m w width y e fy in
          adder_holds v i w (own a j) (opposite_of (own b j)) true x (complement w y) j (λ h. a_lit j)
          (λ h. not_b j ∙ sym (complement_bit w y j small h)) (λ k. layers 1 k (omega arith)) part
          (λ h.
          let same : x + (2 ^ w - y) ≡ x + complement w y + 1 = omega arith in
          o_bit j ((x + (2 ^ w - y)) % 2 ^ w) is ∙ cut_bit w (x + (2 ^ w - y)) j h ∙ ap (λ n. has_bit n j) same)
      two_holds Mul e is layers part j =
          product_holds v t i a b w x y reads_a reads_b layers part j (second_fits w m w width y e fy)
          (λ h. o_bit j ((x * y) % 2 ^ w) is ∙ cut_bit w (x * y) j h)
      two_holds Shl e is layers part j =
          within_holds w j _ (λ h.
          let lit = λ (n : ℕ). stage_lit v t i a b w x y reads_a reads_b m (λ k n. up x k n) up_whole layers part n in
          shifted_holds v t i a b w x y reads_a reads_b m (λ k n. up x k n) up_whole layers (from_below i a part j) part j h fy
          (o_bit j (cond (leb w y) 0 ((x * 2 ^ y) % 2 ^ w)) is ∙ shl_bit w x y j h)
          (up_more x y part j (has_bit y part) refl
          ∙ ap (λ u. cond (has_bit y part) u (up x (y % 2 ^ part) j))
          (sym (above_lit (leb (2 ^ part) j) (stage i a part (j - 2 ^ part)) never (up x (y % 2 ^ part) (j - 2 ^ part)) false (λ q. let less : j - 2 ^ part < w = omega arith in lit (j - 2 ^ part) less) (never_lit v t)))))
      two_holds LShr e is layers part j =
          within_holds w j _ (λ h.
          let lit = λ (n : ℕ). stage_lit v t i a b w x y reads_a reads_b m (λ k n. down w false x k n) (down_whole false) layers part n in
          shifted_holds v t i a b w x y reads_a reads_b m (λ k n. down w false x k n) (down_whole false) layers (from_above i a part j w never) part j h fy
          (o_bit j (cond (leb w y) 0 (x / 2 ^ y)) is ∙ lshr_bit w x y j fx)
          (down_more w false x y part j (has_bit y part) refl
          ∙ ap (λ u. cond (has_bit y part) u (down w false x (y % 2 ^ part) j))
          (sym (above_lit (ltb (j + 2 ^ part) w) (stage i a part (j + 2 ^ part)) never (down w false x (y % 2 ^ part) (j + 2 ^ part)) false (λ q. lit (j + 2 ^ part) (ltb-true (j + 2 ^ part) w q)) (never_lit v t)))))
      two_holds AShr e is layers part j =
          within_holds w j _ (λ h.
          let top = has_bit x (w - 1) in
          let lit = λ (n : ℕ). stage_lit v t i a b w x y reads_a reads_b m (λ k n. down w (has_bit x (w - 1)) x k n) (down_whole (has_bit x (w - 1))) layers part n in
          let last : w - 1 < w = omega arith in
          shifted_holds v t i a b w x y reads_a reads_b m (λ k n. down w (has_bit x (w - 1)) x k n) (down_whole (has_bit x (w - 1))) layers (from_above i a part j w (stage i a part (w - 1))) part j h fy
          (o_bit j (cond (leb w y) (cond (ltb x (2 ^ (w - 1))) 0 (2 ^ w - 1)) (wrapped w (int_shr (signed w x) y))) is ∙ ashr_bit w x y j positive h fx)
          (down_more w top x y part j (has_bit y part) refl
          ∙ ap (λ u. cond (has_bit y part) u (down w top x (y % 2 ^ part) j))
          (sym (above_lit (ltb (j + 2 ^ part) w) (stage i a part (j + 2 ^ part)) (stage i a part (w - 1)) (down w top x (y % 2 ^ part) (j + 2 ^ part)) top (λ q. lit (j + 2 ^ part) (ltb-true (j + 2 ^ part) w q)) (lit (w - 1) last ∙ down_top w x (y % 2 ^ part) positive)))))
      two_holds Eq e is layers part j =
          equality_holds v i w (own a j) (own b j) (own i 0) x y j (λ h. a_lit j) (λ h. b_lit j) fx (second_fits w m 1 width y e fy) (λ k. layers 1 k (omega arith)) part
          (i_lit 0 (bit (eqb x y)) is ∙ truth_bit (eqb x y))
      two_holds Ne e is layers part j =
          equality_holds v i w (own a j) (own b j) (opposite_of (own i 0)) x y j (λ h. a_lit j) (λ h. b_lit j) fx (second_fits w m 1 width y e fy) (λ k. layers 1 k (omega arith)) part
          (opposite_lit v (own i 0) ∙ ap not (i_lit 0 (bit (not (eqb x y))) is ∙ truth_bit (not (eqb x y))) ∙ not_not (eqb x y))
        where
          not_not : (c : Bool) → not (not c) ≡ c
          not_not true = refl
          not_not false = refl
      two_holds ULt e is layers part j =
          relation_holds v i w (own a j) (own b j) false x y j (λ h. a_lit j) (λ h. b_lit j) fx (second_fits w m 1 width y e fy) (λ k. layers 1 k (omega arith)) part
          (o_bit 0 (bit (ltb x y)) is ∙ truth_bit (ltb x y) ∙ not_leb x y)
      two_holds UGe e is layers part j =
          relation_holds v i w (own a j) (own b j) true x y j (λ h. a_lit j) (λ h. b_lit j) fx (second_fits w m 1 width y e fy) (λ k. layers 1 k (omega arith)) part
          (o_bit 0 (bit (leb y x)) is ∙ truth_bit (leb y x))
      two_holds UGt e is layers part j =
          relation_holds v i w (own b j) (own a j) false y x j (λ h. b_lit j) (λ h. a_lit j) (second_fits w m 1 width y e fy) fx (λ k. layers 1 k (omega arith)) part
          (o_bit 0 (bit (ltb y x)) is ∙ truth_bit (ltb y x) ∙ not_leb y x)
      two_holds ULe e is layers part j =
          relation_holds v i w (own b j) (own a j) true y x j (λ h. b_lit j) (λ h. a_lit j) (second_fits w m 1 width y e fy) fx (λ k. layers 1 k (omega arith)) part
          (o_bit 0 (bit (leb x y)) is ∙ truth_bit (leb x y))
      two_holds SLt e is layers part j =
          let small = second_fits w m 1 width y e fy in
          relation_holds v i w (top_negated w j (own a j)) (top_negated w j (own b j)) false (turned w x) (turned w y) j (λ h. top_lit w j x (own a j) positive h (a_lit j)) (λ h. top_lit w j y (own b j) positive h (b_lit j)) (turned_fits w x) (turned_fits w y) (λ k. layers 1 k (omega arith)) part
          (o_bit 0 (bit (int_lt (signed w x) (signed w y))) is ∙ truth_bit (int_lt (signed w x) (signed w y)) ∙ signed_below w x y positive fx small)
      two_holds SGe e is layers part j =
          let small = second_fits w m 1 width y e fy in
          relation_holds v i w (top_negated w j (own a j)) (top_negated w j (own b j)) true (turned w x) (turned w y) j (λ h. top_lit w j x (own a j) positive h (a_lit j)) (λ h. top_lit w j y (own b j) positive h (b_lit j)) (turned_fits w x) (turned_fits w y) (λ k. layers 1 k (omega arith)) part
          (o_bit 0 (bit (int_le (signed w y) (signed w x))) is ∙ truth_bit (int_le (signed w y) (signed w x)) ∙ signed_least w y x positive small fx)
      two_holds SGt e is layers part j =
          let small = second_fits w m 1 width y e fy in
          relation_holds v i w (top_negated w j (own b j)) (top_negated w j (own a j)) false (turned w y) (turned w x) j (λ h. top_lit w j y (own b j) positive h (b_lit j)) (λ h. top_lit w j x (own a j) positive h (a_lit j)) (turned_fits w y) (turned_fits w x) (λ k. layers 1 k (omega arith)) part
          (o_bit 0 (bit (int_lt (signed w y) (signed w x))) is ∙ truth_bit (int_lt (signed w y) (signed w x)) ∙ signed_below w y x positive small fx)
      two_holds SLe e is layers part j =
          let small = second_fits w m 1 width y e fy in
          relation_holds v i w (top_negated w j (own b j)) (top_negated w j (own a j)) true (turned w y) (turned w x) j (λ h. top_lit w j y (own b j) positive h (b_lit j)) (λ h. top_lit w j x (own a j) positive h (a_lit j)) (turned_fits w y) (turned_fits w x) (λ k. layers 1 k (omega arith)) part
          (o_bit 0 (bit (int_le (signed w x) (signed w y))) is ∙ truth_bit (int_le (signed w x) (signed w y)) ∙ signed_least w x y positive fx small)
      two_holds Concat e is layers part j =
          only_holds (w + m) part j _ (λ h. same_holds v (cond (ltb j m) (own b j) (own a (j - m))) (own i j)
          (i_lit j (x * 2 ^ m + y) is ∙ join_bit x m y j fy ∙ sym (above_lit (ltb j m) (own b j) (own a (j - m)) (has_bit y j) (has_bit x (j - m)) (λ q. b_lit j) (a_lit (j - m)))))
      two_holds op e is layers part j = no_part v
