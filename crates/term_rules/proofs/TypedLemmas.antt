-- The right side of a rule is typed, and as wide as its application.
use Rattle.std.proofs.Common.{◌≡◌, ℕ, ◌+◌, ◌-◌, ◌<◌, ◌≤◌, Bool, true, false, cond, ◌&&◌, List, [], ◌∷◌, Option, Some, None, IsSome, eqb, ltb, refl, ap, sym, ◌∙◌, subst, arith}
use Rattle.std.specs.Prelude.{unwrap_or, is_some}
use Rattle.std.proofs.lemmas.Bool.{eqb-true, le-leb, lt-ltb, and_parts}
use Rattle.std.proofs.lemmas.Option.{none-some}
use Rattle.bv_bits.specs.declared.Bits.{Bits}
use Rattle.bv_bits.specs.declared.Op.{Op}
use Rattle.bv_bits.specs.declared.Op.TheVariants.{Eq, Ne, ULt, ULe, UGt, UGe, SLt, SLe, SGt, SGe, Add, Sub, Neg, Concat, Extract, ZExt}
use Rattle.bv_bits.specs.Bits.{IsBits, same, relation, two_widths, some_if, result_width_of, apply_of, bit}
use Rattle.term_tree.specs.Terms.{Tree, lit, one, two, three, width_of, IsTyped}
use Rattle.term_rules.specs.Rules.{Right, given, made_one, made_two, literal, opposite, holds_of_same, rule_of}
use Rattle.term_rules.specs.Laws.{right_width, IsTypedRight}
use Rattle.term_tree.proofs.OperatorLemmas.{some_width, same_widths, width_here, some_same, bit_below, one_fits, two_fits, three_fits}
use Rattle.term_rules.proofs.Rewrites.{Rewrites, one_literal, two_literals, three_literals, not_not, not_relation, zero_and, and_zero, ones_and, and_ones, and_same, or_same, zero_or, or_zero, ones_or, or_ones, zero_xor, xor_zero, xor_same, add_turned, add_zero, add_literals, add_out_of_second, add_out_of_first, sub_literal, sub_same, sub_left, sub_out_of_second, sub_out_of_first, zero_mul, mul_zero, one_mul, mul_one, shl_zero, lshr_zero, ashr_zero, relation_same, below_zero, zero_above, at_least_zero, zero_at_most, extract_all, extract_extract, extract_low, extract_high, extract_zext, zext_own, sext_own, ite_literal, ite_same}
use Rattle.term_rules.proofs.RewriteLemmas.{rewrites}
use Rattle.term_tree.proofs.WidthLemmas.{extract_parts, width_is, zero_fits}

-- ---- operators by their widths

-- a right side of a width
abbrev pub IsRight : ℕ → Right → Type 0
IsRight w r = IsTypedRight r × (right_width r ≡ w)

-- both arguments are as wide as the result
module _ (x y : Tree) (h : IsSome (same (width_of x) (width_of y)) × IsTyped x × IsTyped y) where
  pub one_width : width_of x ≡ width_of y
  one_width = same_widths (width_of x) (width_of y) (width_of x) h.0

  pub first_right : IsRight (unwrap_or (same (width_of x) (width_of y)) 0) (given x)
  first_right = (h.1, sym (width_here _ _ h.0))

  pub second_right : IsRight (unwrap_or (same (width_of x) (width_of y)) 0) (given y)
  second_right = (h.2, sym one_width ∙ sym (width_here _ _ h.0))

  pub zero_right : IsRight (unwrap_or (same (width_of x) (width_of y)) 0) (given (literal (width_of x) 0))
  zero_right = (zero_fits (width_of x) (width_is x h.1), sym (width_here _ _ h.0))

-- a truth value as a right side
truth_right : (b : Bool) (v w : ℕ) → IsSome (relation v w) → IsRight (unwrap_or (relation v w) 0) (given (literal 1 (bit b)))
truth_right b v w h =
    (record { positive = omega arith; at_most = omega arith; fits = bit_below b }, sym (width_here _ _ h))

-- a sum or a difference as a right side
pub sum_width : (v w : ℕ) → v ≡ w → unwrap_or (same v w) 0 ≡ v
sum_width v w e = width_here (eqb v w) v (some_same v w v e)

opposite_width : (op p : Op) → opposite op ≡ Some p → (ws : List ℕ) → result_width_of p ws ≡ result_width_of op ws
opposite_width Eq p e ws = sym (ap (λ (o : Option Op). result_width_of (unwrap_or o Eq) ws) e)
opposite_width Ne p e ws = sym (ap (λ (o : Option Op). result_width_of (unwrap_or o Eq) ws) e)
opposite_width ULt p e ws = sym (ap (λ (o : Option Op). result_width_of (unwrap_or o Eq) ws) e)
opposite_width ULe p e ws = sym (ap (λ (o : Option Op). result_width_of (unwrap_or o Eq) ws) e)
opposite_width UGt p e ws = sym (ap (λ (o : Option Op). result_width_of (unwrap_or o Eq) ws) e)
opposite_width UGe p e ws = sym (ap (λ (o : Option Op). result_width_of (unwrap_or o Eq) ws) e)
opposite_width SLt p e ws = sym (ap (λ (o : Option Op). result_width_of (unwrap_or o Eq) ws) e)
opposite_width SLe p e ws = sym (ap (λ (o : Option Op). result_width_of (unwrap_or o Eq) ws) e)
opposite_width SGt p e ws = sym (ap (λ (o : Option Op). result_width_of (unwrap_or o Eq) ws) e)
opposite_width SGe p e ws = sym (ap (λ (o : Option Op). result_width_of (unwrap_or o Eq) ws) e)
opposite_width op p e ws = absurd (none-some p e)

truth_width : (op : Op) (b : Bool) → holds_of_same op ≡ Some b → (ws : List ℕ) → result_width_of op ws ≡ two_widths relation ws
truth_width Eq b e ws = refl
truth_width Ne b e ws = refl
truth_width ULt b e ws = refl
truth_width ULe b e ws = refl
truth_width UGt b e ws = refl
truth_width UGe b e ws = refl
truth_width SLt b e ws = refl
truth_width SLe b e ws = refl
truth_width SGt b e ws = refl
truth_width SGe b e ws = refl
truth_width op b e ws = absurd (none-some b e)

extract_some : (hi lo w : ℕ) → lo ≤ hi → hi < w → IsSome (result_width_of (Extract hi lo) (w ∷ []))
extract_some hi lo w p q =
    ap (λ (b : Bool). is_some (some_if (b && ltb hi w) (hi - lo + 1))) (le-leb lo hi p)
    ∙ ap (λ (b : Bool). is_some (some_if b (hi - lo + 1))) (lt-ltb hi w q)

extract_right : (hi lo n : ℕ) (x : Tree) → IsTyped x → lo ≤ hi → hi < width_of x → hi - lo + 1 ≡ n → IsRight n (made_one (Extract hi lo) (given x))
extract_right hi lo n x t p q e =
    let s = extract_some hi lo (width_of x) p q in
    ((s, t), (extract_parts hi lo (width_of x) s).2 ∙ e)

pub concat_width : (v w : ℕ) → IsSome (result_width_of Concat (v ∷ w ∷ [])) → unwrap_or (result_width_of Concat (v ∷ w ∷ [])) 0 ≡ v + w
concat_width v w h = width_here _ _ h

pub zext_width : (to w : ℕ) → IsSome (result_width_of (ZExt to) (w ∷ [])) → unwrap_or (result_width_of (ZExt to) (w ∷ [])) 0 ≡ to
zext_width to w h = width_here _ _ h

either_right : (b : Bool) (w : ℕ) (x y : Tree) → IsRight w (given x) → IsRight w (given y) → IsRight w (given (cond b x y))
either_right true w x y p q = p
either_right false w x y p q = q

-- ---- right sides are typed

-- sums and differences of terms of one width
module _ (x y : Tree) (w : ℕ) (tx : IsTyped x) (ty : IsTyped y) (ex : width_of x ≡ w) (ey : width_of y ≡ w) where
  sum_right : IsRight w (made_two Add (given x) (given y))
  sum_right =
      let e : width_of x ≡ width_of y = ex ∙ sym ey in
      ((some_same (width_of x) (width_of y) (width_of x) e, tx, ty), sum_width _ _ e ∙ ex)

  difference_right : IsRight w (made_two Sub (given x) (given y))
  difference_right = sum_right

outer_sum : (r : Right) (c : Bits) (w : ℕ) → IsRight w r → IsBits c → c.width ≡ w → IsRight w (made_two Add r (given (lit c)))
outer_sum r c w h f ec =
    let e : right_width r ≡ c.width = h.1 ∙ sym ec in
    ((some_same (right_width r) c.width (right_width r) e, h.0, f), sum_width _ _ e ∙ h.1)

-- what is within the sum of x and a sum of y and c
pub nested : (x y : Tree) (c : Bits) → IsTyped (two Add x (two Add y (lit c))) → (width_of y ≡ width_of x) × (c.width ≡ width_of x)
nested x y c h =
    let e = one_width x (two Add y (lit c)) h in
    let i = one_width y (lit c) h.2 in
    let k = width_here (eqb (width_of y) c.width) (width_of y) h.2.0 in
    (sym (e ∙ k), sym (e ∙ k ∙ i))

-- and of the sum of a sum of x and c, and y
pub nested_first : (x y : Tree) (c : Bits) → IsTyped (two Add (two Add x (lit c)) y) → (width_of y ≡ width_of x) × (c.width ≡ width_of x) × (unwrap_or (same (unwrap_or (same (width_of x) c.width) 0) (width_of y)) 0 ≡ width_of x)
nested_first x y c h =
    let e = one_width (two Add x (lit c)) y h in
    let i = one_width x (lit c) h.1 in
    let k = width_here (eqb (width_of x) c.width) (width_of x) h.1.0 in
    (sym e ∙ k, sym i, width_here _ _ h.0 ∙ k)

pub rewrites_typed : {t : Tree} {r : Right} → Rewrites t r → IsTyped t → IsRight (width_of t) r
rewrites_typed (one_literal op a) h = (one_fits op a h.1 h.0, refl)
rewrites_typed (two_literals op a b) h = (two_fits a b h.1 h.2 op h.0, refl)
rewrites_typed (three_literals op a b c) h = (three_fits op a b c h.1 h.2 h.3 h.0, refl)
rewrites_typed (not_not x) h = (h.1.1, refl)
rewrites_typed (not_relation op p x y o) h =
    let e = opposite_width op p o (width_of x ∷ width_of y ∷ []) in
    ((subst (λ (w : Option ℕ). IsSome w) (sym e) h.1.0, h.1.1, h.1.2), ap (λ (w : Option ℕ). unwrap_or w 0) e)
rewrites_typed (zero_and x y z) h = first_right x y h
rewrites_typed (and_zero x y z) h = second_right x y h
rewrites_typed (ones_and x y z) h = second_right x y h
rewrites_typed (and_ones x y z) h = first_right x y h
rewrites_typed (and_same x y e) h = first_right x y h
rewrites_typed (or_same x y e) h = first_right x y h
rewrites_typed (zero_or x y z) h = second_right x y h
rewrites_typed (or_zero x y z) h = first_right x y h
rewrites_typed (ones_or x y z) h = first_right x y h
rewrites_typed (or_ones x y z) h = second_right x y h
rewrites_typed (zero_xor x y z) h = second_right x y h
rewrites_typed (xor_zero x y z) h = first_right x y h
rewrites_typed (xor_same x y e) h = zero_right x y h
rewrites_typed (add_turned x y hx hy) h =
    let w = unwrap_or (same (width_of x) (width_of y)) 0 in
    sum_right y x w h.2 h.1 (second_right x y h).1 (first_right x y h).1
rewrites_typed (add_zero x y z) h = first_right x y h
rewrites_typed (add_literals x c d) h =
    let n = nested_first x (lit d) c h in
    let s = some_same c.width d.width c.width (n.1 ∙ sym n.0) in
    let e = width_here (eqb c.width d.width) c.width s ∙ n.1 in
    let r = outer_sum (given x) (apply_of Add (c ∷ d ∷ [])) (width_of x) (h.1.1, refl) (two_fits c d h.1.2 h.2 Add s) e in
    (r.0, r.1 ∙ sym n.2)
rewrites_typed (add_out_of_second x y c) h =
    let n = nested x y c h in
    let r = outer_sum (made_two Add (given x) (given y)) c (width_of x) (sum_right x y (width_of x) h.1 h.2.1 refl n.0) h.2.2 n.1 in
    (r.0, r.1 ∙ sym (width_here _ _ h.0))
rewrites_typed (add_out_of_first x y c z) h =
    let n = nested_first x y c h in
    let r = outer_sum (made_two Add (given x) (given y)) c (width_of x) (sum_right x y (width_of x) h.1.1 h.2 refl n.0) h.1.2 n.1 in
    (r.0, r.1 ∙ sym n.2)
rewrites_typed (sub_literal x c) h =
    let e = one_width x (lit c) h in
    let r = outer_sum (given x) (apply_of Neg (c ∷ [])) (width_of x) (h.1, refl) (one_fits Neg c h.2 refl) (sym e) in
    (r.0, r.1 ∙ sym (width_here _ _ h.0))
rewrites_typed (sub_same x y e) h = zero_right x y h
rewrites_typed (sub_left x y z e) h =
    let k = second_right x y h.1 in
    (k.0, k.1 ∙ sym (width_here _ _ h.0))
rewrites_typed (sub_out_of_second x y c) h =
    let n = nested x y c h in
    let r = outer_sum (made_two Sub (given x) (given y)) (apply_of Neg (c ∷ [])) (width_of x) (difference_right x y (width_of x) h.1 h.2.1 refl n.0) (one_fits Neg c h.2.2 refl) n.1 in
    (r.0, r.1 ∙ sym (width_here _ _ h.0))
rewrites_typed (sub_out_of_first x y c z) h =
    let n = nested_first x y c h in
    let r = outer_sum (made_two Sub (given x) (given y)) c (width_of x) (difference_right x y (width_of x) h.1.1 h.2 refl n.0) h.1.2 n.1 in
    (r.0, r.1 ∙ sym n.2)
rewrites_typed (zero_mul x y z) h = first_right x y h
rewrites_typed (mul_zero x y z) h = second_right x y h
rewrites_typed (one_mul x y z) h = second_right x y h
rewrites_typed (mul_one x y z) h = first_right x y h
rewrites_typed (shl_zero x y z) h = (h.1, refl)
rewrites_typed (lshr_zero x y z) h = (h.1, refl)
rewrites_typed (ashr_zero x y z) h = (h.1, refl)
rewrites_typed (relation_same op b x y e o) h =
    let same = truth_width op b o (width_of x ∷ width_of y ∷ []) in
    let r = truth_right b (width_of x) (width_of y) (subst (λ (w : Option ℕ). IsSome w) same h.0) in
    (r.0, r.1 ∙ sym (ap (λ (w : Option ℕ). unwrap_or w 0) same))
rewrites_typed (below_zero x y z) h = truth_right false (width_of x) (width_of y) h.0
rewrites_typed (zero_above x y z) h = truth_right false (width_of x) (width_of y) h.0
rewrites_typed (at_least_zero x y z) h = truth_right true (width_of x) (width_of y) h.0
rewrites_typed (zero_at_most x y z) h = truth_right true (width_of x) (width_of y) h.0
rewrites_typed (extract_all hi lo x z e) h =
    let p = extract_parts hi lo (width_of x) h.0 in
    (h.1, omega (arith, p.2))
rewrites_typed (extract_extract hi lo k l x) h =
    let inner = extract_parts k l (width_of x) h.1.0 in
    let outer = extract_parts hi lo _ h.0 in
    let bound : hi < k - l + 1 = subst (λ (w : ℕ). hi < w) inner.2 outer.1 in
    let size : (hi + l) - (lo + l) + 1 ≡ hi - lo + 1 = omega arith in
    extract_right (hi + l) (lo + l) _ x h.1.1 (omega (arith, outer.0)) (omega (arith, inner.0, inner.1)) (size ∙ sym outer.2)
rewrites_typed (extract_low hi lo x y z) h =
    let outer = extract_parts hi lo _ h.0 in
    extract_right hi lo _ y h.1.2 outer.0 z (sym outer.2)
rewrites_typed (extract_high hi lo x y z) h =
    let outer = extract_parts hi lo _ h.0 in
    let bound : hi < width_of x + width_of y = subst (λ (w : ℕ). hi < w) (concat_width (width_of x) (width_of y) h.1.0) outer.1 in
    let size : (hi - width_of y) - (lo - width_of y) + 1 ≡ hi - lo + 1 = omega (arith, outer.0) in
    extract_right (hi - width_of y) (lo - width_of y) _ x h.1.1 (omega (arith, outer.0)) (omega (arith, outer.0)) (size ∙ sym outer.2)
rewrites_typed (extract_zext hi lo to x z) h =
    let outer = extract_parts hi lo _ h.0 in
    extract_right hi lo _ x h.1.1 outer.0 z (sym outer.2)
rewrites_typed (zext_own to x e) h = (h.1, sym e ∙ sym (zext_width to (width_of x) h.0))
rewrites_typed (sext_own to x e) h = (h.1, sym e ∙ sym (zext_width to (width_of x) h.0))
rewrites_typed (ite_literal t x y) h =
    let s = some_width (eqb t.width 1 && eqb (width_of x) (width_of y)) (width_of x) h.0 in
    let e = eqb-true _ _ (and_parts (eqb t.width 1) (eqb (width_of x) (width_of y)) s.0).1 in
    either_right (eqb t.value 1) _ x y (h.2, sym s.1) (h.3, sym e ∙ sym s.1)
rewrites_typed (ite_same t x y e) h =
    let s = some_width (eqb (width_of t) 1 && eqb (width_of x) (width_of y)) (width_of x) h.0 in
    (h.2, sym s.1)

pub right_typed : (t : Tree) (r : Right) → IsTyped t → rule_of t ≡ Some r → IsTypedRight r × (right_width r ≡ width_of t)
right_typed t r h e = rewrites_typed (rewrites t r e) h
