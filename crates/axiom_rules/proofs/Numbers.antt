-- Bits of sums, complements and products, over plain numbers.
use Rattle.std.proofs.Common.{◌≡◌, ℕ, ◌+◌, ◌-◌, ◌*◌, ◌/◌, ◌%◌, ◌^◌, ◌<◌, ◌≤◌, Bool, true, false, not, leb, eqb, refl, ap, sym, ◌∙◌, arith}
use Rattle.std.specs.Int.{bit_at}
use Rattle.std.proofs.lemmas.Bool.{leb-true, leb-false, le-leb, lt-leb, eq-eqb, ne_eqb, eqb-true, eqb-false}
use Rattle.std.proofs.lemmas.Nat.{pow_pos, mod_below, div-add-mod', div-mul-add, mod-pow-add, pow-add}
use Rattle.std.proofs.lemmas.Nat.Bits.{bit_at_cat_low}
use Rattle.bv_bits.specs.Bits.{bit}
use Rattle.gate_tables.specs.Gates.{parity, majority}
use Rattle.bv_bits.specs.BitLaws.{has_bit}
use Rattle.axiom_rules.specs.Truth.{carries}

-- ---- a bit as a truth value

pub odd_by : (n : ℕ) (b : Bool) → n % 2 ≡ bit b → eqb (n % 2) 1 ≡ b
odd_by n true e = eq-eqb (n % 2) 1 e
odd_by n false e = ne_eqb (n % 2) 1 (λ h. absurd (omega arith))

pub odd_of : (n : ℕ) (b : Bool) → eqb (n % 2) 1 ≡ b → n % 2 ≡ bit b
odd_of n true e = eqb-true (n % 2) 1 e
odd_of n false e = let ne = eqb-false (n % 2) 1 e in omega arith

-- ---- sums

module _ (m x y c : ℕ) (p : 0 < m) (h : c ≤ 1) where
  div_sum : (b : Bool) → leb m (x % m + y % m + c) ≡ b → (x + y + c) / m ≡ x / m + y / m + bit b
  div_sum true e =
      let over : m ≤ x % m + y % m + c = leb-true m (x % m + y % m + c) e in
      let r : x % m + y % m + c - m < m = omega (arith, mod_below x m p, mod_below y m p) in
      let same : x + y + c ≡ (x / m + y / m + 1) * m + (x % m + y % m + c - m) = omega (arith, div-add-mod' x m, div-add-mod' y m) in
      ap (λ n. n / m) same ∙ div-mul-add (x / m + y / m + 1) m (x % m + y % m + c - m) r
  div_sum false e =
      let r : x % m + y % m + c < m = leb-false m (x % m + y % m + c) e in
      let same : x + y + c ≡ (x / m + y / m + 0) * m + (x % m + y % m + c) = omega (arith, div-add-mod' x m, div-add-mod' y m) in
      ap (λ n. n / m) same ∙ div-mul-add (x / m + y / m + 0) m (x % m + y % m + c) r

mod_parity : (p q : ℕ) (a b k : Bool) → p % 2 ≡ bit a → q % 2 ≡ bit b → (p + q + bit k) % 2 ≡ bit (parity a b k)
mod_parity p q true true true e f = omega arith
mod_parity p q true true false e f = omega arith
mod_parity p q true false true e f = omega arith
mod_parity p q true false false e f = omega arith
mod_parity p q false true true e f = omega arith
mod_parity p q false true false e f = omega arith
mod_parity p q false false true e f = omega arith
mod_parity p q false false false e f = omega arith

-- a bit of a sum is the parity of the bits and the carry
pub sum_bit : (c x y j : ℕ) → c ≤ 1 → has_bit (x + y + c) j ≡ parity (has_bit x j) (has_bit y j) (carries c x y j)
sum_bit c x y j h =
    odd_by ((x + y + c) / 2 ^ j) (parity (has_bit x j) (has_bit y j) (carries c x y j))
    (ap (λ n. n % 2) (div_sum (2 ^ j) x y c (pow_pos j) h (carries c x y j) refl)
    ∙ mod_parity (x / 2 ^ j) (y / 2 ^ j) (has_bit x j) (has_bit y j) (carries c x y j) (odd_of (x / 2 ^ j) (has_bit x j) refl) (odd_of (y / 2 ^ j) (has_bit y j) refl))

carry_case : (m r s c : ℕ) (a b k : Bool) → r < m → s < m → c ≤ 1 → leb m (r + s + c) ≡ k → leb (2 * m) ((bit a * m + r) + (bit b * m + s) + c) ≡ majority a b k
carry_case m r s c true true k x y h e = le-leb (2 * m) ((1 * m + r) + (1 * m + s) + c) (omega arith)
carry_case m r s c true false true x y h e = let o = leb-true m (r + s + c) e in le-leb (2 * m) ((1 * m + r) + (0 * m + s) + c) (omega arith)
carry_case m r s c true false false x y h e = let o = leb-false m (r + s + c) e in lt-leb (2 * m) ((1 * m + r) + (0 * m + s) + c) (omega arith)
carry_case m r s c false true true x y h e = let o = leb-true m (r + s + c) e in le-leb (2 * m) ((0 * m + r) + (1 * m + s) + c) (omega arith)
carry_case m r s c false true false x y h e = let o = leb-false m (r + s + c) e in lt-leb (2 * m) ((0 * m + r) + (1 * m + s) + c) (omega arith)
carry_case m r s c false false k x y h e = lt-leb (2 * m) ((0 * m + r) + (0 * m + s) + c) (omega arith)

pub low_more : (x j : ℕ) → x % 2 ^ (j + 1) ≡ bit (has_bit x j) * 2 ^ j + x % 2 ^ j
low_more x j =
    let turn : j + 1 ≡ 1 + j = omega arith in
    ap (λ k. x % 2 ^ k) turn ∙ mod-pow-add x 1 j ∙ ap (λ n. n * 2 ^ j + x % 2 ^ j) (odd_of (x / 2 ^ j) (has_bit x j) refl)

pub pow_more : (j : ℕ) → 2 ^ (j + 1) ≡ 2 * 2 ^ j
pow_more j = let turn : j + 1 ≡ 1 + j = omega arith in ap (λ k. 2 ^ k) turn ∙ pow-add 2 1 j

-- the next carry is the majority of the bits and the carry
pub carry_bit : (c x y j : ℕ) → c ≤ 1 → carries c x y (j + 1) ≡ majority (has_bit x j) (has_bit y j) (carries c x y j)
carry_bit c x y j h =
    ap (λ m. leb m (x % 2 ^ (j + 1) + y % 2 ^ (j + 1) + c)) (pow_more j)
    ∙ ap (λ n. leb (2 * 2 ^ j) (n + y % 2 ^ (j + 1) + c)) (low_more x j)
    ∙ ap (λ n. leb (2 * 2 ^ j) (bit (has_bit x j) * 2 ^ j + x % 2 ^ j + n + c)) (low_more y j)
    ∙ carry_case (2 ^ j) (x % 2 ^ j) (y % 2 ^ j) c (has_bit x j) (has_bit y j) (carries c x y j) (mod_below x (2 ^ j) (pow_pos j)) (mod_below y (2 ^ j) (pow_pos j)) h refl

pub carry_none : (x y : ℕ) → carries 0 x y 0 ≡ false
carry_none x y = lt-leb 1 (x % 1 + y % 1 + 0) (omega arith)

pub carry_one : (x y : ℕ) → carries 1 x y 0 ≡ true
carry_one x y = le-leb 1 (x % 1 + y % 1 + 1) (omega arith)

-- ---- a number cut to w bits

pub cut_bit : (w n j : ℕ) → j < w → has_bit (n % 2 ^ w) j ≡ has_bit n j
cut_bit w n j h =
    ap (λ b. eqb b 1) (sym (bit_at_cat_low (n / 2 ^ w) w (n % 2 ^ w) j h) ∙ ap (λ k. bit_at k j) (div-add-mod' n (2 ^ w)))

-- ---- the complement

pub div_complement : (m t q r : ℕ) → r < m → ((t + 1 + q) * m - 1 - (q * m + r)) / m ≡ t
div_complement m t q r h =
    let below : m - 1 - r < m = omega arith in
    let same : (t + 1 + q) * m - 1 - (q * m + r) ≡ t * m + (m - 1 - r) = omega arith in
    ap (λ n. n / m) same ∙ div-mul-add t m (m - 1 - r) below

pub odd_complement : (t q s : ℕ) (b : Bool) → t + 1 + q ≡ 2 * s → q % 2 ≡ bit b → t % 2 ≡ bit (not b)
odd_complement t q s true e h = omega arith
odd_complement t q s false e h = omega arith
