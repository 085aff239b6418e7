-- The value of a rule's right side is that of its application.
use Rattle.std.proofs.Common.{◌≡◌, ℕ, ◌+◌, ◌-◌, ◌%◌, ◌^◌, ◌<◌, ◌≤◌, Bool, true, false, cond, List, [], ◌∷◌, Option, Some, IsSome, eqb, refl, ap, sym, ◌∙◌, subst, arith}
use Rattle.std.specs.Prelude.{unwrap_or}
use Rattle.std.specs.Int.Bits.{and_zero_l, and_zero_r, and_self, or_zero_l, or_zero_r, or_self, xor_zero_l, xor_zero_r, xor_self}
use Rattle.std.proofs.lemmas.Bool.{eqb-true, false≢true}
use Rattle.std.proofs.lemmas.Option.{none-some}
use Rattle.bv_bits.specs.declared.Op.{Op}
use Rattle.bv_bits.specs.declared.Op.TheVariants.{Eq, Ne, ULt, ULe, UGt, UGe, SLt, SLe, SGt, SGe, Concat, Extract, SExt}
use Rattle.bv_bits.specs.Bits.{ones, relation, two_widths, result_width_of, number_of}
use Rattle.bv_bits.proofs.CornerLemmas.{shl_by_zero, lshr_by_zero, ashr_by_zero, sext_to_own}
use Rattle.term_tree.specs.Terms.{Tree, lit, two, width_of, IsTyped}
use Rattle.term_tree.specs.Values.{Values, IsValues, value}
use Rattle.term_rules.specs.Rules.{Right, given, made_one, made_two, is_number, is_ones, opposite, rule_of}
use Rattle.term_rules.specs.Laws.{right_width, right_value, IsTypedRight}
use Rattle.term_tree.proofs.SameLemmas.{bits_equal}
use Rattle.term_tree.proofs.OperatorLemmas.{width_here}
use Rattle.term_rules.proofs.NumberLemmas as number
use Rattle.term_rules.proofs.Rewrites.{Rewrites, one_literal, two_literals, three_literals, not_not, not_relation, zero_and, and_zero, ones_and, and_ones, and_same, or_same, zero_or, or_zero, ones_or, or_ones, zero_xor, xor_zero, xor_same, add_turned, add_zero, add_literals, add_out_of_second, add_out_of_first, sub_literal, sub_same, sub_left, sub_out_of_second, sub_out_of_first, zero_mul, mul_zero, one_mul, mul_one, shl_zero, lshr_zero, ashr_zero, relation_same, below_zero, zero_above, at_least_zero, zero_at_most, extract_all, extract_extract, extract_low, extract_high, extract_zext, zext_own, sext_own, ite_literal, ite_same}
use Rattle.term_rules.proofs.RewriteLemmas.{rewrites}
use Rattle.term_tree.proofs.WidthLemmas.{width_is, extract_parts}
use Rattle.term_rules.proofs.TypedLemmas.{one_width, sum_width, nested, nested_first, rewrites_typed}
use Rattle.term_tree.proofs.FitLemmas.{value_fits}

pub right_value_width : (v : Values) (r : Right) → IsValues v → IsTypedRight r → (right_value v r).width ≡ right_width r
right_value_width v (given t) hv h = (value_fits v t hv h).1
right_value_width v (made_one op r) hv h =
    ap (λ k. unwrap_or (result_width_of op (k ∷ [])) 0) (right_value_width v r hv h.1)
right_value_width v (made_two op r s) hv h =
    ap (λ k. unwrap_or (result_width_of op (k ∷ (right_value v s).width ∷ [])) 0) (right_value_width v r hv h.1)
    ∙ ap (λ k. unwrap_or (result_width_of op (right_width r ∷ k ∷ [])) 0) (right_value_width v s hv h.2)

-- ---- literals, relations and branches

number_value : (v : Values) (n : ℕ) (t : Tree) → is_number n t ≡ true → (value v t).value ≡ n
number_value v n (lit b) h = eqb-true b.value n h
number_value v n t h = absurd (false≢true h)

ones_value : (v : Values) (t : Tree) → is_ones t ≡ true → (value v t).value ≡ ones (value v t).width
ones_value v (lit b) h = eqb-true b.value (ones b.width) h
ones_value v t h = absurd (false≢true h)

opposite_relation : (op p : Op) → opposite op ≡ Some p → (ws : List ℕ) → result_width_of op ws ≡ two_widths relation ws
opposite_relation Eq p e ws = refl
opposite_relation Ne p e ws = refl
opposite_relation ULt p e ws = refl
opposite_relation ULe p e ws = refl
opposite_relation UGt p e ws = refl
opposite_relation UGe p e ws = refl
opposite_relation SLt p e ws = refl
opposite_relation SLe p e ws = refl
opposite_relation SGt p e ws = refl
opposite_relation SGe p e ws = refl
opposite_relation op p e ws = absurd (none-some p e)

branch_value : (v : Values) (b : Bool) (x y : Tree) → (value v (cond b x y)).value ≡ cond b (value v x).value (value v y).value
branch_value v true x y = refl
branch_value v false x y = refl

same_branches : (b : Bool) (x y : ℕ) → x ≡ y → x ≡ cond b x y
same_branches true x y e = refl
same_branches false x y e = e

-- ---- the numbers of both sides

-- two terms of one width, and their values
module _ (v : Values) (hv : IsValues v) where
  fits : (x : Tree) → IsTyped x → (value v x).value < 2 ^ (value v x).width
  fits x h = (value_fits v x hv h).0.fits

  same_as : (x y : Tree) → x ≡ y → (value v y).value ≡ (value v x).value
  same_as x y e = sym (ap (λ (t : Tree). (value v t).value) e)

  widths_as : (x y : Tree) → IsTyped x → IsTyped y → width_of x ≡ width_of y → (value v x).width ≡ (value v y).width
  widths_as x y hx hy e = (value_fits v x hv hx).1 ∙ e ∙ sym (value_fits v y hv hy).1

  second_fits : (x y : Tree) → IsTyped x → IsTyped y → width_of x ≡ width_of y → (value v y).value < 2 ^ (value v x).width
  second_fits x y hx hy e =
      subst (λ (k : ℕ). (value v y).value < 2 ^ k) (sym (widths_as x y hx hy e)) (fits y hy)

  one_ones : (x y : Tree) → IsTyped x → IsTyped y → width_of x ≡ width_of y → is_ones y ≡ true → (value v y).value ≡ ones (value v x).width
  one_ones x y hx hy e z = ones_value v y z ∙ ap ones (sym (widths_as x y hx hy e))

  rewrites_number : {t : Tree} {r : Right} → Rewrites t r → IsTyped t → (right_value v r).value ≡ (value v t).value
  rewrites_number (one_literal op a) h = refl
  rewrites_number (two_literals op a b) h = refl
  rewrites_number (three_literals op a b c) h = refl
  rewrites_number (not_not x) h = sym (number.not_twice (2 ^ (value v x).width) (value v x).value (fits x h.1.1))
  rewrites_number (not_relation op p x y o) h =
      let s = opposite_relation op p o (width_of x ∷ width_of y ∷ []) in
      let some : IsSome (relation (width_of x) (width_of y)) = subst (λ (w : Option ℕ). IsSome w) s h.1.0 in
      let w : (value v (two op x y)).width ≡ 1 = (value_fits v (two op x y) hv h.1).1 ∙ ap (λ (w : Option ℕ). unwrap_or w 0) s ∙ width_here _ _ some in
      number.opposite_number (value v x) (value v y) op p o
      ∙ sym (ap (λ k. 2 ^ k - 1 - number_of op (value v x ∷ value v y ∷ [])) w)
  rewrites_number (zero_and x y z) h = rw (number_value v 0 x z) (sym (and_zero_l (value v y).value))
  rewrites_number (and_zero x y z) h = rw (number_value v 0 y z) (sym (and_zero_r (value v x).value))
  rewrites_number (ones_and x y z) h =
      rw (ones_value v x z) (sym (number.ones_and (value v x).width (value v y).value (second_fits x y h.1 h.2 (one_width x y h))))
  rewrites_number (and_ones x y z) h =
      rw (one_ones x y h.1 h.2 (one_width x y h) z) (sym (number.and_ones (value v x).width (value v x).value (fits x h.1)))
  rewrites_number (and_same x y e) h = rw (same_as x y e) (sym (and_self (value v x).value))
  rewrites_number (or_same x y e) h = rw (same_as x y e) (sym (or_self (value v x).value))
  rewrites_number (zero_or x y z) h = rw (number_value v 0 x z) (sym (or_zero_l (value v y).value))
  rewrites_number (or_zero x y z) h = rw (number_value v 0 y z) (sym (or_zero_r (value v x).value))
  rewrites_number (ones_or x y z) h =
      rw (ones_value v x z) (sym (number.ones_or (value v x).width (value v y).value (second_fits x y h.1 h.2 (one_width x y h))))
  rewrites_number (or_ones x y z) h =
      rw (one_ones x y h.1 h.2 (one_width x y h) z) (sym (number.or_ones (value v x).width (value v x).value (fits x h.1)))
  rewrites_number (zero_xor x y z) h = rw (number_value v 0 x z) (sym (xor_zero_l (value v y).value))
  rewrites_number (xor_zero x y z) h = rw (number_value v 0 y z) (sym (xor_zero_r (value v x).value))
  rewrites_number (xor_same x y e) h = rw (same_as x y e) (sym (xor_self (value v x).value))
  rewrites_number (add_turned x y hx hy) h =
      let w = widths_as y x h.2 h.1 (sym (one_width x y h)) in
      ap (λ k. ((value v y).value + (value v x).value) % 2 ^ k) w ∙ number.sum_turned (2 ^ (value v x).width) (value v x).value (value v y).value
  rewrites_number (add_zero x y z) h =
      rw (number_value v 0 y z) (sym (number.sum_zero (2 ^ (value v x).width) (value v x).value (fits x h.1)))
  rewrites_number (add_literals x c d) h =
      let e : (value v x).width ≡ c.width = widths_as x (lit c) h.1.1 h.1.2 (one_width x (lit c) h.1) in
      let X = (value v x).value in
      let m = 2 ^ (value v x).width in
      ap (λ k. (X + (c.value + d.value) % 2 ^ k) % m) (sym e) ∙ number.sum_literals m X c.value d.value
      ∙ ap (λ k. ((X + c.value) % m + d.value) % 2 ^ k) (sym (sum_width _ _ e))
  rewrites_number (add_out_of_second x y c) h =
      let n = nested x y c h in
      let w : (value v x).width ≡ (value v y).width = widths_as x y h.1 h.2.1 (sym n.0) in
      let X = (value v x).value in
      let Y = (value v y).value in
      let m = 2 ^ (value v x).width in
      ap (λ k. ((X + Y) % m + c.value) % 2 ^ k) (sum_width _ _ w) ∙ number.sum_out_of_second m X Y c.value
      ∙ ap (λ k. (X + (Y + c.value) % 2 ^ k) % m) w
  rewrites_number (add_out_of_first x y c z) h =
      let n = nested_first x y c h in
      let w : (value v x).width ≡ (value v y).width = widths_as x y h.1.1 h.2 (sym n.0) in
      let u : (value v x).width ≡ c.width = widths_as x (lit c) h.1.1 h.1.2 (sym n.1) in
      let X = (value v x).value in
      let Y = (value v y).value in
      let m = 2 ^ (value v x).width in
      ap (λ k. ((X + Y) % m + c.value) % 2 ^ k) (sum_width _ _ w) ∙ number.sum_out_of_first m X Y c.value
      ∙ ap (λ k. ((X + c.value) % m + Y) % 2 ^ k) (sym (sum_width _ _ u))
  rewrites_number (sub_literal x c) h =
      let e : (value v x).width ≡ c.width = widths_as x (lit c) h.1 h.2 (one_width x (lit c) h) in
      let X = (value v x).value in
      let m = 2 ^ (value v x).width in
      ap (λ k. (X + (2 ^ k - c.value) % 2 ^ k) % m) (sym e) ∙ number.difference_of_literal m X c.value
  rewrites_number (sub_same x y e) h =
      rw (same_as x y e) (number.difference_same (2 ^ (value v x).width) (value v x).value (fits x h.1))
  rewrites_number (sub_left x y z e) h =
      let w : (value v x).width ≡ (value v y).width = widths_as x y h.1.1 h.1.2 (one_width x y h.1) in
      let X = (value v x).value in
      let Y = (value v y).value in
      let m = 2 ^ (value v x).width in
      rw (same_as x z e) (number.difference_left m X Y (fits x h.1.1) (second_fits x y h.1.1 h.1.2 (one_width x y h.1))
      ∙ ap (λ k. ((X + Y) % m + (2 ^ k - X)) % 2 ^ k) (sym (sum_width _ _ w)))
  rewrites_number (sub_out_of_second x y c) h =
      let n = nested x y c h in
      let w : (value v x).width ≡ (value v y).width = widths_as x y h.1 h.2.1 (sym n.0) in
      let u : (value v x).width ≡ c.width = widths_as x (lit c) h.1 h.2.2 (sym n.1) in
      let X = (value v x).value in
      let Y = (value v y).value in
      let m = 2 ^ (value v x).width in
      ap (λ k. ((X + (m - Y)) % m + (2 ^ c.width - c.value) % 2 ^ c.width) % 2 ^ k) (sum_width _ _ w)
      ∙ ap (λ k. ((X + (m - Y)) % m + (2 ^ k - c.value) % 2 ^ k) % m) (sym u)
      ∙ number.difference_out_of_second m X Y c.value (second_fits x y h.1 h.2.1 (sym n.0)) (second_fits x (lit c) h.1 h.2.2 (sym n.1))
      ∙ ap (λ k. (X + (m - (Y + c.value) % 2 ^ k)) % m) w
  rewrites_number (sub_out_of_first x y c z) h =
      let n = nested_first x y c h in
      let w : (value v x).width ≡ (value v y).width = widths_as x y h.1.1 h.2 (sym n.0) in
      let u : (value v x).width ≡ c.width = widths_as x (lit c) h.1.1 h.1.2 (sym n.1) in
      let X = (value v x).value in
      let Y = (value v y).value in
      let m = 2 ^ (value v x).width in
      ap (λ k. ((X + (m - Y)) % m + c.value) % 2 ^ k) (sum_width _ _ w) ∙ number.difference_out_of_first m X Y c.value
      ∙ ap (λ k. ((X + c.value) % m + (2 ^ k - Y)) % 2 ^ k) (sym (sum_width _ _ u))
  rewrites_number (zero_mul x y z) h = rw (number_value v 0 x z) (number.zero_product (2 ^ (value v x).width) (value v y).value)
  rewrites_number (mul_zero x y z) h = rw (number_value v 0 y z) (number.product_zero (2 ^ (value v x).width) (value v x).value)
  rewrites_number (one_mul x y z) h =
      rw (number_value v 1 x z) (number.one_product (2 ^ (value v x).width) (value v y).value (second_fits x y h.1 h.2 (one_width x y h)))
  rewrites_number (mul_one x y z) h =
      rw (number_value v 1 y z) (number.product_one (2 ^ (value v x).width) (value v x).value (fits x h.1))
  rewrites_number (shl_zero x y z) h = sym (shl_by_zero (value v x) (value v y) (value_fits v x hv h.1).0 (number_value v 0 y z))
  rewrites_number (lshr_zero x y z) h = sym (lshr_by_zero (value v x) (value v y) (value_fits v x hv h.1).0 (number_value v 0 y z))
  rewrites_number (ashr_zero x y z) h = sym (ashr_by_zero (value v x) (value v y) (value_fits v x hv h.1).0 (number_value v 0 y z))
  rewrites_number (relation_same op b x y e o) h =
      number.same_number (value v x) op b o ∙ ap (λ (t : Tree). number_of op (value v x ∷ value v t ∷ [])) e
  rewrites_number (below_zero x y z) h = rw (number_value v 0 y z) (number.not_below_zero (value v x).value)
  rewrites_number (zero_above x y z) h = rw (number_value v 0 x z) (number.not_below_zero (value v y).value)
  rewrites_number (at_least_zero x y z) h = rw (number_value v 0 y z) (number.zero_at_most (value v x).value)
  rewrites_number (zero_at_most x y z) h = rw (number_value v 0 x z) (number.zero_at_most (value v y).value)
  rewrites_number (extract_all hi lo x z e) h =
      number.extract_all hi lo (value v x).width (value v x).value z (e ∙ sym (value_fits v x hv h.1).1) (fits x h.1)
  rewrites_number (extract_extract hi lo k l x) h =
      let inner = extract_parts k l (width_of x) h.1.0 in
      let outer = extract_parts hi lo _ h.0 in
      let below : hi < k - l + 1 = subst (λ (w : ℕ). hi < w) inner.2 outer.1 in
      number.extract_extract hi lo k l (value v x) outer.0 below (omega (arith, inner.0, inner.1, (width_is x h.1.1).at_most))
  rewrites_number (extract_low hi lo x y z) h =
      let outer = extract_parts hi lo _ h.0 in
      let f = value_fits v y hv h.1.2 in
      number.extract_low hi lo (value v x) (value v y) outer.0 (subst (λ (w : ℕ). hi < w) (sym f.1) z) f.0.at_most
  rewrites_number (extract_high hi lo x y z) h =
      let outer = extract_parts hi lo _ h.0 in
      let f = value_fits v y hv h.1.2 in
      let most = (width_is (two Concat x y) h.1).at_most in
      ap (λ k. number_of (Extract (hi - k) (lo - k)) (value v x ∷ [])) (sym f.1)
      ∙ number.extract_high hi lo (value v x) (value v y) f.0 outer.0 (subst (λ (w : ℕ). w ≤ lo) (sym f.1) z) (omega (arith, outer.1, most))
  rewrites_number (extract_zext hi lo to x z) h = refl
  rewrites_number (zext_own to x e) h = refl
  rewrites_number (sext_own to x e) h =
      let f = value_fits v x hv h.1 in
      sym (ap (λ k. number_of (SExt k) (value v x ∷ [])) (e ∙ sym f.1) ∙ sext_to_own (value v x) f.0)
  rewrites_number (ite_literal t x y) h = branch_value v (eqb t.value 1) x y
  rewrites_number (ite_same t x y e) h = same_branches (eqb (value v t).value 1) (value v x).value (value v y).value (sym (same_as x y e))

pub right_value_is : (v : Values) (t : Tree) (r : Right) → IsValues v → IsTyped t → rule_of t ≡ Some r → right_value v r ≡ value v t
right_value_is v t r hv h e =
    let w = rewrites t r e in
    let s = rewrites_typed w h in
    bits_equal _ _ (right_value_width v r hv s.0 ∙ s.1 ∙ sym (value_fits v t hv h).1) (rewrites_number v hv w h)
