-- Bits of complements, products, shifts and extensions, over plain numbers.
use Rattle.std.proofs.Common.{◌≡◌, ℕ, ◌+◌, ◌-◌, ◌*◌, ◌/◌, ◌%◌, ◌^◌, ◌<◌, ◌≤◌, Bool, true, false, not, cond, leb, ltb, eqb, refl, ap, sym, ◌∙◌, subst, inl, inr, arith, add-zero}
use Rattle.std.proofs.lemmas.Bool.{leb-true, leb-false, le-leb, lt-leb, eqb-true, eqb-false, lt-ltb, le-ltb, cases_lt, cond-true, cond-false}
use Rattle.std.proofs.lemmas.Nat.{pow_pos, mod_below, div-add-mod', div-mul-add, pow-add, div_below, shr-shr}
use Rattle.std.proofs.lemmas.Nat.Bits.{bit_at_cat_low, bit_at_cat_high, bit_at-zero, bit_at_above}
use Rattle.std.proofs.Math.Nat.{mod-eq_of_lt}
use Rattle.bv_bits.specs.Bits.{bit}
use Rattle.bv_bits.specs.BitLaws.{has_bit}
use Rattle.axiom_rules.specs.Truth.{carries, complement, turned, up, down}
use Rattle.axiom_rules.proofs.Numbers.{odd_by, odd_of, div_complement, odd_complement, cut_bit}

-- ---- the complement

pub complement_bit : (w y j : ℕ) → y < 2 ^ w → j < w → has_bit (complement w y) j ≡ not (has_bit y j)
complement_bit w y j fits h =
    let e : (w - j) + j ≡ w = omega arith in
    let pow : 2 ^ w ≡ 2 ^ (w - j) * 2 ^ j = sym (ap (λ k. 2 ^ k) e) ∙ pow-add 2 (w - j) j in
    let q : y / 2 ^ j < 2 ^ (w - j) = div_below y (2 ^ j) (2 ^ (w - j)) (pow_pos j) (subst (λ n. y < n) pow fits) in
    let whole : (2 ^ (w - j) - 1 - y / 2 ^ j) + 1 + y / 2 ^ j ≡ 2 ^ (w - j) = omega arith in
    let f : 1 + (w - j - 1) ≡ w - j = omega arith in
    let even : 2 ^ (w - j) ≡ 2 * 2 ^ (w - j - 1) = sym (ap (λ k. 2 ^ k) f) ∙ pow-add 2 1 (w - j - 1) in
    let quotient : complement w y / 2 ^ j ≡ 2 ^ (w - j) - 1 - y / 2 ^ j =
    ap (λ n. (n - 1 - y) / 2 ^ j) (pow ∙ ap (λ k. k * 2 ^ j) (sym whole))
    ∙ ap (λ n. (((2 ^ (w - j) - 1 - y / 2 ^ j) + 1 + y / 2 ^ j) * 2 ^ j - 1 - n) / 2 ^ j) (sym (div-add-mod' y (2 ^ j)))
    ∙ div_complement (2 ^ j) (2 ^ (w - j) - 1 - y / 2 ^ j) (y / 2 ^ j) (y % 2 ^ j) (mod_below y (2 ^ j) (pow_pos j)) in
    odd_by (complement w y / 2 ^ j) (not (has_bit y j))
    (ap (λ n. n % 2) quotient ∙ odd_complement (2 ^ (w - j) - 1 - y / 2 ^ j) (y / 2 ^ j) (2 ^ (w - j - 1)) (has_bit y j) (whole ∙ even) (odd_of (y / 2 ^ j) (has_bit y j) refl))

pub complement_fits : (w y : ℕ) → complement w y < 2 ^ w
complement_fits w y = omega (arith, pow_pos w)

at_least_by : (m x y : ℕ) (b : Bool) → x < m → y < m → leb y x ≡ b → leb m (x + (m - 1 - y) + 1) ≡ b
at_least_by m x y true p q e = let o = leb-true y x e in le-leb m (x + (m - 1 - y) + 1) (omega arith)
at_least_by m x y false p q e = let o = leb-false y x e in lt-leb m (x + (m - 1 - y) + 1) (omega arith)

-- x + not y + 1 carries out of the word exactly where x is at least y
pub carries_out : (w x y : ℕ) → x < 2 ^ w → y < 2 ^ w → carries 1 x (complement w y) w ≡ leb y x
carries_out w x y p q =
    ap (λ n. leb (2 ^ w) (n + complement w y % 2 ^ w + 1)) (mod-eq_of_lt p)
    ∙ ap (λ n. leb (2 ^ w) (x + n + 1)) (mod-eq_of_lt (complement_fits w y))
    ∙ at_least_by (2 ^ w) x y (leb y x) p q refl

-- ---- shifts by a constant

pub up_bit : (x k j : ℕ) → has_bit (x * 2 ^ k) j ≡ up x k j
up_bit x k j =
    elim (cases_lt j k) [
      | inl lt ↦
          ap (λ n. has_bit n j) (sym (add-zero (x * 2 ^ k)))
          ∙ ap (λ b. eqb b 1) (bit_at_cat_low x k 0 j lt ∙ bit_at-zero j)
          ∙ sym (cond-true (ltb j k) false (has_bit x (j - k)) (lt-ltb j k lt))
      | inr ge ↦
          ap (λ n. has_bit n j) (sym (add-zero (x * 2 ^ k)))
          ∙ ap (λ b. eqb b 1) (bit_at_cat_high x k 0 j (pow_pos k) ge)
          ∙ sym (cond-false (ltb j k) false (has_bit x (j - k)) (le-ltb j k ge))
    ]

pub above_bit : (w x j : ℕ) → x < 2 ^ w → w ≤ j → has_bit x j ≡ false
above_bit w x j p h = ap (λ b. eqb b 1) (bit_at_above x w j p h)

pub down_bit : (w x k j : ℕ) → x < 2 ^ w → has_bit (x / 2 ^ k) j ≡ down w false x k j
down_bit w x k j p =
    let turn : k + j ≡ j + k = omega arith in
    ap (λ n. eqb (n % 2) 1) (shr-shr x k j) ∙ ap (λ i. has_bit x i) turn
    ∙ elim (cases_lt (j + k) w) [
      | inl lt ↦ sym (cond-true (ltb (j + k) w) (has_bit x (j + k)) false (lt-ltb (j + k) w lt))
      | inr ge ↦ above_bit w x (j + k) p ge ∙ sym (cond-false (ltb (j + k) w) (has_bit x (j + k)) false (le-ltb (j + k) w ge))
    ]

pub join_bit : (x m y j : ℕ) → y < 2 ^ m → has_bit (x * 2 ^ m + y) j ≡ cond (ltb j m) (has_bit y j) (has_bit x (j - m))
join_bit x m y j p =
    elim (cases_lt j m) [
      | inl lt ↦ ap (λ b. eqb b 1) (bit_at_cat_low x m y j lt) ∙ sym (cond-true (ltb j m) (has_bit y j) (has_bit x (j - m)) (lt-ltb j m lt))
      | inr ge ↦ ap (λ b. eqb b 1) (bit_at_cat_high x m y j p ge) ∙ sym (cond-false (ltb j m) (has_bit y j) (has_bit x (j - m)) (le-ltb j m ge))
    ]

-- ---- a word with its top bit negated

turned_at : (w x j : ℕ) → 0 < w → j < w → (b : Bool) → eqb (j + 1) w ≡ b → has_bit (x + 2 ^ (w - 1)) j ≡ cond b (not (has_bit x j)) (has_bit x j)
turned_at w x j p h true e =
    let top : w - 1 ≡ j = omega (arith, eqb-true (j + 1) w e) in
    ap (λ k. has_bit (x + 2 ^ k) j) top
    ∙ odd_by ((x + 2 ^ j) / 2 ^ j) (not (has_bit x j)) (ap (λ n. n % 2) (one_more (2 ^ j) (pow_pos j)) ∙ flips (x / 2 ^ j) (has_bit x j) (odd_of (x / 2 ^ j) (has_bit x j) refl))
  where
    one_more : (m : ℕ) → 0 < m → (x + m) / m ≡ x / m + 1
    one_more m q =
        let same : x + m ≡ (x / m + 1) * m + x % m = omega (arith, div-add-mod' x m) in
        ap (λ n. n / m) same ∙ div-mul-add (x / m + 1) m (x % m) (mod_below x m q)

    flips : (q : ℕ) (b : Bool) → q % 2 ≡ bit b → (q + 1) % 2 ≡ bit (not b)
    flips q true f = omega arith
    flips q false f = omega arith
turned_at w x j p h false e =
    let ne = eqb-false (j + 1) w e in
    let low : j < w - 1 = omega arith in
    let turn : x + 2 ^ (w - 1) ≡ 1 * 2 ^ (w - 1) + x = omega arith in
    ap (λ n. has_bit n j) turn ∙ ap (λ b. eqb b 1) (bit_at_cat_low 1 (w - 1) x j low)

pub turned_bit : (w x j : ℕ) → 0 < w → j < w → has_bit (turned w x) j ≡ cond (eqb (j + 1) w) (not (has_bit x j)) (has_bit x j)
turned_bit w x j p h = cut_bit w (x + 2 ^ (w - 1)) j h ∙ turned_at w x j p h (eqb (j + 1) w) refl
