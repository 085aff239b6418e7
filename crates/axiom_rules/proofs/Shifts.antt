-- Bits of products and of shifts by a number.
use Rattle.std.proofs.Common.{◌≡◌, ℕ, zero, suc, ◌+◌, ◌-◌, ◌*◌, ◌/◌, ◌%◌, ◌^◌, ◌<◌, ◌≤◌, Bool, true, false, ◌&&◌, cond, leb, ltb, eqb, refl, ap, sym, ◌∙◌, inl, inr, arith}
use Rattle.std.specs.Int.{bit_at}
use Rattle.std.proofs.lemmas.Bool.{le-leb, lt-leb, lt-ltb, le-ltb, cases_lt, cond-true, cond-false}
use Rattle.std.proofs.lemmas.Nat.Bits.{bit_at-zero}
use Rattle.bv_bits.specs.Bits.{bit}
use Rattle.bv_bits.specs.BitLaws.{has_bit}
use Rattle.axiom_rules.specs.Truth.{up, down}
use Rattle.axiom_rules.proofs.Numbers.{odd_of, low_more, cut_bit}
use Rattle.axiom_rules.proofs.Words.{up_bit, down_bit}

-- ---- products

row_by : (x b r j : ℕ) (t : Bool) → b ≡ bit t → has_bit (x * (b * 2 ^ r)) j ≡ (up x r j && t)
row_by x b r j true e =
    let same : x * (b * 2 ^ r) ≡ x * 2 ^ r = ap (λ n. x * (n * 2 ^ r)) e ∙ one_times x (2 ^ r) in
    ap (λ n. has_bit n j) same ∙ up_bit x r j ∙ and_true (up x r j)
  where
    one_times : (a m : ℕ) → a * (1 * m) ≡ a * m
    one_times a m = omega arith

    and_true : (b : Bool) → b ≡ (b && true)
    and_true true = refl
    and_true false = refl
row_by x b r j false e =
    let same : x * (b * 2 ^ r) ≡ 0 = ap (λ n. x * (n * 2 ^ r)) e ∙ zero_times x (2 ^ r) in
    ap (λ n. has_bit n j) same ∙ ap (λ n. eqb n 1) (bit_at-zero j) ∙ and_false (up x r j)
  where
    zero_times : (a m : ℕ) → a * (0 * m) ≡ 0
    zero_times a m = omega arith

    and_false : (b : Bool) → false ≡ (b && false)
    and_false true = refl
    and_false false = refl

-- a row of a product
pub row_bit : (x y r j : ℕ) → has_bit (x * (bit_at y r * 2 ^ r)) j ≡ (up x r j && has_bit y r)
row_bit x y r j = row_by x (bit_at y r) r j (has_bit y r) (odd_of (y / 2 ^ r) (has_bit y r) refl)

-- the sum of the rows so far
pub rows_more : (x y r : ℕ) → x * (y % 2 ^ (r + 1)) ≡ x * (y % 2 ^ r) + x * (bit_at y r * 2 ^ r) + 0
rows_more x y r =
    ap (λ n. x * n) (low_more y r)
    ∙ ap (λ n. x * (n * 2 ^ r + y % 2 ^ r)) (sym (odd_of (y / 2 ^ r) (has_bit y r) refl))
    ∙ spread x (bit_at y r) (2 ^ r) (y % 2 ^ r)
  where
    spread : (a b m c : ℕ) → a * (b * m + c) ≡ a * c + a * (b * m) + 0
    spread a b m c = omega arith

-- ---- shifts, one bit of the amount more

up_both : (x d k j : ℕ) → up x (d + k) j ≡ cond (leb d j) (up x k (j - d)) false
up_both x d k j =
    elim (cases_lt j d) [
      | inl lt ↦
          let far : j < d + k = omega arith in
          cond-true (ltb j (d + k)) false (has_bit x (j - (d + k))) (lt-ltb j (d + k) far)
          ∙ sym (cond-false (leb d j) (up x k (j - d)) false (lt-leb d j lt))
      | inr ge ↦
          let whole : d + (j - d) ≡ j = omega arith in
          let less : j - (d + k) ≡ j - d - k = omega arith in
          same_test (ltb j (d + k)) (ltb (j - d) k) false (has_bit x (j - (d + k))) (has_bit x (j - d - k)) (tests j d k ge) (ap (has_bit x) less)
          ∙ sym (cond-true (leb d j) (up x k (j - d)) false (le-leb d j ge))
    ]
  where
    same_test : (b c : Bool) (u s t : Bool) → b ≡ c → s ≡ t → cond b u s ≡ cond c u t
    same_test b c u s t e f = cc

    tests : (j d k : ℕ) → d ≤ j → ltb j (d + k) ≡ ltb (j - d) k
    tests j d k ge =
        elim (cases_lt j (d + k)) [
          | inl lt ↦ let near : j - d < k = omega arith in lt-ltb j (d + k) lt ∙ sym (lt-ltb (j - d) k near)
          | inr ov ↦ let far : k ≤ j - d = omega arith in le-ltb j (d + k) ov ∙ sym (le-ltb (j - d) k far)
        ]

pub up_more : (x y s j : ℕ) (t : Bool) → has_bit y s ≡ t → up x (y % 2 ^ (s + 1)) j ≡ cond t (cond (leb (2 ^ s) j) (up x (y % 2 ^ s) (j - 2 ^ s)) false) (up x (y % 2 ^ s) j)
up_more x y s j true e =
    let more : y % 2 ^ (s + 1) ≡ 2 ^ s + y % 2 ^ s = low_more y s ∙ ap (λ b. bit b * 2 ^ s + y % 2 ^ s) e ∙ one (2 ^ s) (y % 2 ^ s) in
    ap (λ k. up x k j) more ∙ up_both x (2 ^ s) (y % 2 ^ s) j
  where
    one : (m r : ℕ) → 1 * m + r ≡ m + r
    one m r = omega arith
up_more x y s j false e =
    let more : y % 2 ^ (s + 1) ≡ y % 2 ^ s = low_more y s ∙ ap (λ b. bit b * 2 ^ s + y % 2 ^ s) e ∙ none (2 ^ s) (y % 2 ^ s) in
    ap (λ k. up x k j) more
  where
    none : (m r : ℕ) → 0 * m + r ≡ r
    none m r = omega arith

down_both : (w : ℕ) (out : Bool) (x d k j : ℕ) → down w out x (d + k) j ≡ cond (ltb (j + d) w) (down w out x k (j + d)) out
down_both w out x d k j =
    let turn : j + (d + k) ≡ j + d + k = omega arith in
    elim (cases_lt (j + d) w) [
      | inl lt ↦ ap (λ n. cond (ltb n w) (has_bit x n) out) turn ∙ sym (cond-true (ltb (j + d) w) (down w out x k (j + d)) out (lt-ltb (j + d) w lt))
      | inr ge ↦
          let far : w ≤ j + (d + k) = omega arith in
          cond-false (ltb (j + (d + k)) w) (has_bit x (j + (d + k))) out (le-ltb (j + (d + k)) w far)
          ∙ sym (cond-false (ltb (j + d) w) (down w out x k (j + d)) out (le-ltb (j + d) w ge))
    ]

pub down_more : (w : ℕ) (out : Bool) (x y s j : ℕ) (t : Bool) → has_bit y s ≡ t → down w out x (y % 2 ^ (s + 1)) j ≡ cond t (cond (ltb (j + 2 ^ s) w) (down w out x (y % 2 ^ s) (j + 2 ^ s)) out) (down w out x (y % 2 ^ s) j)
down_more w out x y s j true e =
    let more : y % 2 ^ (s + 1) ≡ 2 ^ s + y % 2 ^ s = low_more y s ∙ ap (λ b. bit b * 2 ^ s + y % 2 ^ s) e ∙ one (2 ^ s) (y % 2 ^ s) in
    ap (λ k. down w out x k j) more ∙ down_both w out x (2 ^ s) (y % 2 ^ s) j
  where
    one : (m r : ℕ) → 1 * m + r ≡ m + r
    one m r = omega arith
down_more w out x y s j false e =
    let more : y % 2 ^ (s + 1) ≡ y % 2 ^ s = low_more y s ∙ ap (λ b. bit b * 2 ^ s + y % 2 ^ s) e ∙ none (2 ^ s) (y % 2 ^ s) in
    ap (λ k. down w out x k j) more
  where
    none : (m r : ℕ) → 0 * m + r ≡ r
    none m r = omega arith

-- the top bit stays the sign
pub down_top : (w x k : ℕ) → 0 < w → down w (has_bit x (w - 1)) x k (w - 1) ≡ has_bit x (w - 1)
down_top w x zero p =
    let same : w - 1 + 0 ≡ w - 1 = omega arith in
    let lt : w - 1 + 0 < w = omega arith in
    cond-true (ltb (w - 1 + 0) w) (has_bit x (w - 1 + 0)) (has_bit x (w - 1)) (lt-ltb (w - 1 + 0) w lt) ∙ ap (has_bit x) same
down_top w x (suc k) p =
    let far : w ≤ w - 1 + suc k = omega arith in
    cond-false (ltb (w - 1 + suc k) w) (has_bit x (w - 1 + suc k)) (has_bit x (w - 1)) (le-ltb (w - 1 + suc k) w far)

-- ---- whole shifts

pub shl_bit : (w x y j : ℕ) → j < w → has_bit (cond (leb w y) 0 ((x * 2 ^ y) % 2 ^ w)) j ≡ up x y j
shl_bit w x y j h =
    elim (cases_lt y w) [
      | inl lt ↦ ap (λ n. has_bit n j) (cond-false (leb w y) 0 ((x * 2 ^ y) % 2 ^ w) (lt-leb w y lt)) ∙ cut_bit w (x * 2 ^ y) j h ∙ up_bit x y j
      | inr ge ↦
          let low : j < y = omega arith in
          ap (λ n. has_bit n j) (cond-true (leb w y) 0 ((x * 2 ^ y) % 2 ^ w) (le-leb w y ge)) ∙ ap (λ n. eqb n 1) (bit_at-zero j)
          ∙ sym (cond-true (ltb j y) false (has_bit x (j - y)) (lt-ltb j y low))
    ]

pub lshr_bit : (w x y j : ℕ) → x < 2 ^ w → has_bit (cond (leb w y) 0 (x / 2 ^ y)) j ≡ down w false x y j
lshr_bit w x y j p =
    elim (cases_lt y w) [
      | inl lt ↦ ap (λ n. has_bit n j) (cond-false (leb w y) 0 (x / 2 ^ y) (lt-leb w y lt)) ∙ down_bit w x y j p
      | inr ge ↦
          let far : w ≤ j + y = omega arith in
          ap (λ n. has_bit n j) (cond-true (leb w y) 0 (x / 2 ^ y) (le-leb w y ge)) ∙ ap (λ n. eqb n 1) (bit_at-zero j)
          ∙ sym (cond-false (ltb (j + y) w) (has_bit x (j + y)) false (le-ltb (j + y) w far))
    ]
