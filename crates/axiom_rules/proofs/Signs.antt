-- Numbers in two's complement by their bits.
use Rattle.std.proofs.Common.{◌≡◌, ℕ, ◌+◌, ◌-◌, ◌*◌, ◌/◌, ◌%◌, ◌^◌, ◌<◌, ◌≤◌, Bool, true, false, not, cond, leb, ltb, eqb, pos, negsuc, refl, ap, sym, ◌∙◌, inl, inr, arith}
use Rattle.std.specs.Prelude.{int_lt}
use Rattle.std.specs.Int.{int_shr}
use Rattle.std.proofs.lemmas.Bool.{le-leb, lt-leb, ltb-true, lt-ltb, le-ltb, cases_lt, cond-true, cond-false}
use Rattle.std.proofs.lemmas.Nat.{pow_pos, mod_below, div-mul-add, mod-mul-add, pow-add}
use Rattle.std.proofs.lemmas.Nat.Bits.{bit_at-zero, bit_at_ones}
use Rattle.std.proofs.Math.Nat.{mod-eq_of_lt, div-le_self}
use Rattle.std.proofs.Math.Pow.{pow_mono}
use Rattle.bv_bits.specs.Bits.{signed, wrapped}
use Rattle.bv_bits.specs.BitLaws.{has_bit}
use Rattle.axiom_rules.specs.Truth.{complement, turned, down}
use Rattle.axiom_rules.proofs.Numbers.{odd_by, cut_bit}
use Rattle.axiom_rules.proofs.Words.{complement_bit, complement_fits, down_bit, above_bit}
use Rattle.bv_bits.proofs.WordLemmas.{signed_below, signed_above, extend_below, extend_above, shr_above}

pub half_of : (w : ℕ) → 0 < w → 2 ^ w ≡ 2 * 2 ^ (w - 1)
half_of w p = let e : 1 + (w - 1) ≡ w = omega arith in sym (ap (λ k. 2 ^ k) e) ∙ pow-add 2 1 (w - 1)

-- ---- the sign bit

pub sign_below : (w x : ℕ) → 0 < w → x < 2 ^ (w - 1) → has_bit x (w - 1) ≡ false
sign_below w x p h = above_bit (w - 1) x (w - 1) h (omega arith)

pub sign_above : (w x : ℕ) → 0 < w → x < 2 ^ w → 2 ^ (w - 1) ≤ x → has_bit x (w - 1) ≡ true
sign_above w x p fits h =
    let half = half_of w p in
    let same : x ≡ 1 * 2 ^ (w - 1) + (x - 2 ^ (w - 1)) = omega arith in
    let below : x - 2 ^ (w - 1) < 2 ^ (w - 1) = omega arith in
    odd_by (x / 2 ^ (w - 1)) true (ap (λ n. n / 2 ^ (w - 1) % 2) same ∙ ap (λ n. n % 2) (div-mul-add 1 (2 ^ (w - 1)) (x - 2 ^ (w - 1)) below))

-- ---- order

turned_below : (w x : ℕ) → 0 < w → x < 2 ^ (w - 1) → turned w x ≡ x + 2 ^ (w - 1)
turned_below w x p h = let half = half_of w p in let fits : x + 2 ^ (w - 1) < 2 ^ w = omega arith in mod-eq_of_lt fits

turned_above : (w x : ℕ) → 0 < w → x < 2 ^ w → 2 ^ (w - 1) ≤ x → turned w x ≡ x - 2 ^ (w - 1)
turned_above w x p fits h =
    let half = half_of w p in
    let same : x + 2 ^ (w - 1) ≡ 1 * 2 ^ w + (x - 2 ^ (w - 1)) = omega arith in
    let below : x - 2 ^ (w - 1) < 2 ^ w = omega arith in
    ap (λ n. n % 2 ^ w) same ∙ mod-mul-add 1 (2 ^ w) (x - 2 ^ (w - 1)) below

pub turned_fits : (w x : ℕ) → turned w x < 2 ^ w
turned_fits w x = mod_below (x + 2 ^ (w - 1)) (2 ^ w) (pow_pos w)

same_ltb : (a b c d : ℕ) → (a < b → c < d) → (c < d → a < b) → ltb a b ≡ ltb c d
same_ltb a b c d f g =
    elim (cases_lt a b) [
      | inl lt ↦ lt-ltb a b lt ∙ sym (lt-ltb c d (f lt))
      | inr ge ↦
          elim (cases_lt c d) [
            | inl l ↦ let no = g l in absurd (omega arith)
            | inr g2 ↦ le-ltb a b ge ∙ sym (le-ltb c d g2)
          ]
    ]

-- the order of signed numbers is that of the words with their top bits negated
pub signed_lt : (w x y : ℕ) → 0 < w → x < 2 ^ w → y < 2 ^ w → int_lt (signed w x) (signed w y) ≡ ltb (turned w x) (turned w y)
signed_lt w x y p fx fy =
    let half = half_of w p in
    elim (cases_lt x (2 ^ (w - 1))) [
      | inl lx ↦
          ap (λ z. int_lt z (signed w y)) (signed_below w x lx)
          ∙ elim (cases_lt y (2 ^ (w - 1))) [
            | inl ly ↦
                ap (λ z. int_lt (pos x) z) (signed_below w y ly)
                ∙ same_ltb x y (x + 2 ^ (w - 1)) (y + 2 ^ (w - 1)) (λ h. omega arith) (λ h. omega arith)
                ∙ ap (λ n. ltb n (y + 2 ^ (w - 1))) (sym (turned_below w x p lx)) ∙ ap (λ n. ltb (turned w x) n) (sym (turned_below w y p ly))
            | inr gy ↦
                let no : y - 2 ^ (w - 1) ≤ x + 2 ^ (w - 1) = omega arith in
                ap (λ z. int_lt (pos x) z) (signed_above w y gy)
                ∙ sym (le-ltb (x + 2 ^ (w - 1)) (y - 2 ^ (w - 1)) no)
                ∙ ap (λ n. ltb n (y - 2 ^ (w - 1))) (sym (turned_below w x p lx)) ∙ ap (λ n. ltb (turned w x) n) (sym (turned_above w y p fy gy))
          ]
      | inr gx ↦
          ap (λ z. int_lt z (signed w y)) (signed_above w x gx)
          ∙ elim (cases_lt y (2 ^ (w - 1))) [
            | inl ly ↦
                let yes_ : x - 2 ^ (w - 1) < y + 2 ^ (w - 1) = omega arith in
                ap (λ z. int_lt (negsuc (2 ^ w - 1 - x)) z) (signed_below w y ly)
                ∙ sym (lt-ltb (x - 2 ^ (w - 1)) (y + 2 ^ (w - 1)) yes_)
                ∙ ap (λ n. ltb n (y + 2 ^ (w - 1))) (sym (turned_above w x p fx gx)) ∙ ap (λ n. ltb (turned w x) n) (sym (turned_below w y p ly))
            | inr gy ↦
                ap (λ z. int_lt (negsuc (2 ^ w - 1 - x)) z) (signed_above w y gy)
                ∙ same_ltb (2 ^ w - 1 - y) (2 ^ w - 1 - x) (x - 2 ^ (w - 1)) (y - 2 ^ (w - 1)) (λ h. omega arith) (λ h. omega arith)
                ∙ ap (λ n. ltb n (y - 2 ^ (w - 1))) (sym (turned_above w x p fx gx)) ∙ ap (λ n. ltb (turned w x) n) (sym (turned_above w y p fy gy))
          ]
    ]

-- ---- sign extension and the arithmetic shift

pub sext_bit : (w to x j : ℕ) → 0 < w → w ≤ to → j < to → x < 2 ^ w → has_bit (wrapped to (signed w x)) j ≡ has_bit x (cond (ltb j w) j (w - 1))
sext_bit w to x j p wide h fx =
    elim (cases_lt x (2 ^ (w - 1))) [
      | inl lx ↦
          ap (λ n. has_bit n j) (sym (extend_below w to x fx wide lx))
          ∙ elim (cases_lt j w) [
            | inl lt ↦ ap (has_bit x) (sym (cond-true (ltb j w) j (w - 1) (lt-ltb j w lt)))
            | inr ge ↦ above_bit w x j fx ge ∙ sym (sign_below w x p lx) ∙ ap (has_bit x) (sym (cond-false (ltb j w) j (w - 1) (le-ltb j w ge)))
          ]
      | inr gx ↦
          let small : complement w x < 2 ^ to = omega (arith, complement_fits w x, pow_mono wide) in
          ap (λ n. has_bit n j) (sym (extend_above w to x fx wide gx))
          ∙ complement_bit to (complement w x) j small h
          ∙ elim (cases_lt j w) [
            | inl lt ↦ ap not (complement_bit w x j fx lt) ∙ not_not (has_bit x j) ∙ ap (has_bit x) (sym (cond-true (ltb j w) j (w - 1) (lt-ltb j w lt)))
            | inr ge ↦ ap not (above_bit w (complement w x) j (complement_fits w x) ge) ∙ sym (sign_above w x p fx gx) ∙ ap (has_bit x) (sym (cond-false (ltb j w) j (w - 1) (le-ltb j w ge)))
          ]
    ]
  where
    not_not : (b : Bool) → not (not b) ≡ b
    not_not true = refl
    not_not false = refl

pub ashr_bit : (w x y j : ℕ) → 0 < w → j < w → x < 2 ^ w → has_bit (cond (leb w y) (cond (ltb x (2 ^ (w - 1))) 0 (2 ^ w - 1)) (wrapped w (int_shr (signed w x) y))) j ≡ down w (has_bit x (w - 1)) x y j
ashr_bit w x y j p h fx =
    elim (cases_lt y w) [
      | inl lt ↦
          ap (λ n. has_bit n j) (cond-false (leb w y) (cond (ltb x (2 ^ (w - 1))) 0 (2 ^ w - 1)) (wrapped w (int_shr (signed w x) y)) (lt-leb w y lt))
          ∙ elim (cases_lt x (2 ^ (w - 1))) [
            | inl lx ↦
                ap (λ z. has_bit (wrapped w (int_shr z y)) j) (signed_below w x lx)
                ∙ cut_bit w (x / 2 ^ y) j h ∙ down_bit w x y j fx
                ∙ ap (λ b. down w b x y j) (sym (sign_below w x p lx))
            | inr gx ↦
                let less : complement w x / 2 ^ y < 2 ^ w = omega (arith, complement_fits w x, div-le_self (complement w x) (2 ^ y)) in
                ap (λ n. has_bit n j) (sym (shr_above w y x fx gx))
                ∙ complement_bit w (complement w x / 2 ^ y) j less h
                ∙ ap not (down_bit w (complement w x) y j (complement_fits w x))
                ∙ turned_down (ltb (j + y) w) refl
                ∙ ap (λ b. down w b x y j) (sym (sign_above w x p fx gx))
          ]
      | inr ge ↦
          let far : w ≤ j + y = omega arith in
          ap (λ n. has_bit n j) (cond-true (leb w y) (cond (ltb x (2 ^ (w - 1))) 0 (2 ^ w - 1)) (wrapped w (int_shr (signed w x) y)) (le-leb w y ge))
          ∙ filled ∙ sym (cond-false (ltb (j + y) w) (has_bit x (j + y)) (has_bit x (w - 1)) (le-ltb (j + y) w far))
    ]
  where
    not_not : (b : Bool) → not (not b) ≡ b
    not_not true = refl
    not_not false = refl

    turned_down : (b : Bool) → ltb (j + y) w ≡ b → not (cond b (has_bit (complement w x) (j + y)) false) ≡ cond b (has_bit x (j + y)) true
    turned_down true e = ap not (complement_bit w x (j + y) fx (ltb-true (j + y) w e)) ∙ not_not (has_bit x (j + y))
    turned_down false e = refl

    filled : has_bit (cond (ltb x (2 ^ (w - 1))) 0 (2 ^ w - 1)) j ≡ has_bit x (w - 1)
    filled =
        elim (cases_lt x (2 ^ (w - 1))) [
          | inl lx ↦ ap (λ n. has_bit n j) (cond-true (ltb x (2 ^ (w - 1))) 0 (2 ^ w - 1) (lt-ltb x (2 ^ (w - 1)) lx)) ∙ ap (λ n. eqb n 1) (bit_at-zero j) ∙ sym (sign_below w x p lx)
          | inr gx ↦ ap (λ n. has_bit n j) (cond-false (ltb x (2 ^ (w - 1))) 0 (2 ^ w - 1) (le-ltb x (2 ^ (w - 1)) gx)) ∙ ap (λ n. eqb n 1) (bit_at_ones w j h) ∙ sym (sign_above w x p fx gx)
        ]
