-- The single bits of what the operators give, and the carries of a sum.
use Rattle.std.proofs.Common.{◌≡◌, ℕ, ◌+◌, ◌-◌, ◌*◌, ◌/◌, ◌%◌, ◌^◌, ◌<◌, ◌≤◌, min, max, Bool, true, false, not, eqb, ◌&&◌, ◌||◌, refl, ap, sym, ◌∙◌, inl, inr, arith}
use Rattle.std.specs.Int.{bit_at, int_shr}
use Rattle.std.proofs.lemmas.Bool.{cond-true, cond-false, lt-ltb, le-ltb, le-leb, lt-leb, cases_lt}
use Rattle.std.proofs.lemmas.Bool.Decides.{nat_tests}
use Rattle.std.proofs.lemmas.Nat.{pow_pos, pow_below, shr_split, shr-shr, and-not}
use Rattle.std.proofs.lemmas.Nat.Bits.{bit_at_and, bit_at_or, bit_at_xor, bit_at-lt, bit_at-zero, bit_at_above, bit_at_cat_low, bit_at_cat_high, bit_at_ones, and_pow, same_from_bits_below}
use Rattle.std.proofs.Math.Pow.{pow_mono}
use Rattle.std.proofs.Math.Nat.{add_comm, add-zero, div-le_self}
use Rattle.bv_bits.specs.Bits.{signed, wrapped, sign_bits}
use Rattle.bv_bits.specs.BitLaws.{has_bit, SameBits, NoBitPastWidth, exclusive, NotBits, AndBits, OrBits, XorBits, ImpBit, IteBits, TruthBit, ConcatLow, ConcatHigh, ExtractBits, ZExtBits, SExtLow, SExtHigh, ShlBits, ShlLow, LShrBits, AShrBits, AShrHigh}
use Rattle.bv_bits.proofs.WordLemmas.{two_halves, extend_below, extend_above, shr_below, shr_above}

-- ---- one bit as a number and as a truth value

truth_of_min : (a b : ℕ) → a < 2 → b < 2 → eqb (min a b) 1 ≡ (eqb a 1 && eqb b 1)
truth_of_min a b p q = grind (arith, nat_tests)

truth_of_max : (a b : ℕ) → a < 2 → b < 2 → eqb (max a b) 1 ≡ (eqb a 1 || eqb b 1)
truth_of_max a b p q = grind (arith, nat_tests)

truth_of_sum : (a b : ℕ) → a < 2 → b < 2 → eqb ((a + b) % 2) 1 ≡ exclusive (eqb a 1) (eqb b 1)
truth_of_sum a b p q = grind (arith, nat_tests)

truth_of_rest : (a b : ℕ) → a + b ≡ 1 → eqb a 1 ≡ not (eqb b 1)
truth_of_rest a b e = grind (arith, nat_tests)

pub truth_bit : TruthBit
truth_bit true = refl
truth_bit false = refl

-- ---- bit by bit

pub and_bits : AndBits
and_bits a b j =
    ap (λ n. eqb n 1) (bit_at_and a.value b.value j) ∙ truth_of_min _ _ (bit_at-lt a.value j) (bit_at-lt b.value j)

pub or_bits : OrBits
or_bits a b j =
    ap (λ n. eqb n 1) (bit_at_or a.value b.value j) ∙ truth_of_max _ _ (bit_at-lt a.value j) (bit_at-lt b.value j)

pub xor_bits : XorBits
xor_bits a b j =
    ap (λ n. eqb n 1) (bit_at_xor a.value b.value j) ∙ truth_of_sum _ _ (bit_at-lt a.value j) (bit_at-lt b.value j)

-- two bits that make 2 ^ j between them
one_of_two : (a b m : ℕ) → a < 2 → b < 2 → 0 < m → a * m + b * m ≡ m → a + b ≡ 1
one_of_two a b m p q h e = grind arith

-- a turned number of w bits
bit_at-turned : (w x j : ℕ) → x < 2 ^ w → j < w → bit_at (2 ^ w - 1 - x) j + bit_at x j ≡ 1
bit_at-turned w x j fits h =
    one_of_two (bit_at (2 ^ w - 1 - x) j) (bit_at x j) (2 ^ j) (bit_at-lt (2 ^ w - 1 - x) j) (bit_at-lt x j) (pow_pos j)
    (rw (← and_pow (2 ^ w - 1 - x) j, ← and_pow x j) (and-not w x (2 ^ j) fits (pow_below j w h)))

pub has_bit-turned : (w x j : ℕ) → x < 2 ^ w → j < w → has_bit (2 ^ w - 1 - x) j ≡ not (has_bit x j)
has_bit-turned w x j fits h = truth_of_rest _ _ (bit_at-turned w x j fits h)

pub not_bits : NotBits
not_bits a f j h = has_bit-turned a.width a.value j f.fits h

-- a number of one bit
only_bit : (n : ℕ) → n < 2 → bit_at n 0 ≡ n
only_bit n h = grind (arith)

pub imp_bit : ImpBit
imp_bit a b p q = rw (only_bit a.value p, only_bit b.value q) (grind (arith, nat_tests))

pub ite_bits : IteBits
ite_bits t a b p j = rw (only_bit t.value p) (grind (arith, nat_tests))

same_bit : (a b : ℕ) → a < 2 → b < 2 → eqb a 1 ≡ eqb b 1 → a ≡ b
same_bit a b p q e = grind (arith, nat_tests)

pub same_bits : SameBits
same_bits a b fa fb w e =
    let wide : 2 ^ a.width ≡ 2 ^ b.width = ap (λ k. 2 ^ k) w in
    same_from_bits_below a.width a.value b.value fa.fits (omega (arith, fb.fits)) (λ j h. same_bit _ _ (bit_at-lt a.value j) (bit_at-lt b.value j) (e j h))

pub no_bit_past_width : NoBitPastWidth
no_bit_past_width a f j h = ap (λ n. eqb n 1) (bit_at_above a.value a.width j f.fits h)

-- ---- parts

pub concat_low : ConcatLow
concat_low a b j h = ap (λ n. eqb n 1) (bit_at_cat_low a.value b.width b.value j h)

pub concat_high : ConcatHigh
concat_high a b f j h = ap (λ n. eqb n 1) (bit_at_cat_high a.value b.width b.value j f.fits h)

-- the low n bits of a number
pub bit_at-mod : (x n j : ℕ) → j < n → bit_at (x % 2 ^ n) j ≡ bit_at x j
bit_at-mod x n j h =
    sym (bit_at_cat_low (x / 2 ^ n) n (x % 2 ^ n) j h) ∙ ap (λ k. bit_at k j) (shr_split x n)

bit_at-shr : (x k j : ℕ) → bit_at (x / 2 ^ k) j ≡ bit_at x (k + j)
bit_at-shr x k j = ap (λ n. n % 2) (shr-shr x k j)

pub extract_bits : ExtractBits
extract_bits hi lo a j h =
    ap (λ n. eqb n 1) (bit_at-mod (a.value / 2 ^ lo) (hi - lo + 1) j h ∙ bit_at-shr a.value lo j)

pub zext_bits : ZExtBits
zext_bits to a j = refl

-- ---- the sign bit, and what it fills

-- the top bit of a number of w bits
pub top_clear : (w x : ℕ) → x < 2 ^ (w - 1) → has_bit x (w - 1) ≡ false
top_clear w x h = ap (λ n. eqb n 1) (bit_at_above x (w - 1) (w - 1) h (omega arith))

-- a number at or above the half is the half and a rest
pub above_half : (w x : ℕ) → 2 ^ (w - 1) ≤ x → 1 * 2 ^ (w - 1) + (x - 2 ^ (w - 1)) ≡ x
above_half w x h = omega arith

pub top_set : (w x : ℕ) → 0 < w → x < 2 ^ w → 2 ^ (w - 1) ≤ x → has_bit x (w - 1) ≡ true
top_set w x positive fits h =
    let rest : x - 2 ^ (w - 1) < 2 ^ (w - 1) = omega (arith, two_halves w positive) in
    let start : w - 1 - (w - 1) ≡ 0 = omega arith in
    ap (λ n. has_bit n (w - 1)) (sym (above_half w x h))
    ∙ ap (λ n. eqb n 1) (bit_at_cat_high 1 (w - 1) (x - 2 ^ (w - 1)) (w - 1) rest (omega arith) ∙ ap (λ k. bit_at 1 k) start)

not_twice : (x y : Bool) → x ≡ not y → not x ≡ y
not_twice x true e = ap not e
not_twice x false e = ap not e

module _ (w x : ℕ) (positive : 0 < w) (fits : x < 2 ^ w) where
  pub extended_low : (to j : ℕ) → w ≤ to → j < w → has_bit (wrapped to (signed w x)) j ≡ has_bit x j
  extended_low to j le h =
      elim (cases_lt x (2 ^ (w - 1))) [
        | inl lt ↦ ap (λ n. has_bit n j) (sym (extend_below w to x fits le lt))
        | inr ge ↦
            let wide : 2 ^ w - 1 - x < 2 ^ to = omega (arith, pow_mono le) in
            ap (λ n. has_bit n j) (sym (extend_above w to x fits le ge)) ∙ has_bit-turned to (2 ^ w - 1 - x) j wide (omega arith)
            ∙ not_twice _ _ (has_bit-turned w x j fits h)
      ]

  pub extended_high : (to j : ℕ) → w ≤ to → w ≤ j → j < to → has_bit (wrapped to (signed w x)) j ≡ has_bit x (w - 1)
  extended_high to j le h within =
      elim (cases_lt x (2 ^ (w - 1))) [
        | inl lt ↦
            ap (λ n. has_bit n j) (sym (extend_below w to x fits le lt)) ∙ ap (λ n. eqb n 1) (bit_at_above x w j fits h) ∙ sym (top_clear w x lt)
        | inr ge ↦
            let wide : 2 ^ w - 1 - x < 2 ^ to = omega (arith, pow_mono le) in
            let narrow : 2 ^ w - 1 - x < 2 ^ w = omega (arith, pow_pos w) in
            ap (λ n. has_bit n j) (sym (extend_above w to x fits le ge)) ∙ has_bit-turned to (2 ^ w - 1 - x) j wide within
            ∙ ap (λ n. not (eqb n 1)) (bit_at_above (2 ^ w - 1 - x) w j narrow h) ∙ sym (top_set w x positive fits ge)
      ]

  pub shifted_low : (k j : ℕ) → j < w → j + k < w → has_bit (wrapped w (int_shr (signed w x) k)) j ≡ has_bit x (j + k)
  shifted_low k j h within =
      elim (cases_lt x (2 ^ (w - 1))) [
        | inl lt ↦
            ap (λ n. has_bit n j) (sym (shr_below w k x fits lt)) ∙ ap (λ n. eqb n 1) (bit_at-shr x k j) ∙ ap (has_bit x) (add_comm k j)
        | inr ge ↦
            let less : (2 ^ w - 1 - x) / 2 ^ k < 2 ^ w = omega (arith, div-le_self (2 ^ w - 1 - x) (2 ^ k), pow_pos w) in
            ap (λ n. has_bit n j) (sym (shr_above w k x fits ge)) ∙ has_bit-turned w ((2 ^ w - 1 - x) / 2 ^ k) j less h
            ∙ ap (λ n. not (eqb n 1)) (bit_at-shr (2 ^ w - 1 - x) k j) ∙ ap (λ i. not (has_bit (2 ^ w - 1 - x) i)) (add_comm k j)
            ∙ not_twice _ _ (has_bit-turned w x (j + k) fits within)
      ]

  pub shifted_high : (k j : ℕ) → j < w → w ≤ j + k → has_bit (wrapped w (int_shr (signed w x) k)) j ≡ has_bit x (w - 1)
  shifted_high k j h past =
      let above : w ≤ k + j = omega arith in
      elim (cases_lt x (2 ^ (w - 1))) [
        | inl lt ↦
            ap (λ n. has_bit n j) (sym (shr_below w k x fits lt)) ∙ ap (λ n. eqb n 1) (bit_at-shr x k j ∙ bit_at_above x w (k + j) fits above)
            ∙ sym (top_clear w x lt)
        | inr ge ↦
            let less : (2 ^ w - 1 - x) / 2 ^ k < 2 ^ w = omega (arith, div-le_self (2 ^ w - 1 - x) (2 ^ k), pow_pos w) in
            let narrow : 2 ^ w - 1 - x < 2 ^ w = omega (arith, pow_pos w) in
            ap (λ n. has_bit n j) (sym (shr_above w k x fits ge)) ∙ has_bit-turned w ((2 ^ w - 1 - x) / 2 ^ k) j less h
            ∙ ap (λ n. not (eqb n 1)) (bit_at-shr (2 ^ w - 1 - x) k j ∙ bit_at_above (2 ^ w - 1 - x) w (k + j) narrow above)
            ∙ sym (top_set w x positive fits ge)
      ]

  pub sign_at_each : (j : ℕ) → j < w → has_bit (sign_bits w x) j ≡ has_bit x (w - 1)
  sign_at_each j h =
      elim (cases_lt x (2 ^ (w - 1))) [
        | inl lt ↦
            ap (λ n. has_bit n j) (cond-true _ _ _ (lt-ltb x (2 ^ (w - 1)) lt)) ∙ ap (λ n. eqb n 1) (bit_at-zero j) ∙ sym (top_clear w x lt)
        | inr ge ↦
            ap (λ n. has_bit n j) (cond-false _ _ _ (le-ltb x (2 ^ (w - 1)) ge)) ∙ ap (λ n. eqb n 1) (bit_at_ones w j h)
            ∙ sym (top_set w x positive fits ge)
      ]

pub sext_low : SExtLow
sext_low to a f le j h = extended_low a.width a.value f.positive f.fits to j le h

pub sext_high : SExtHigh
sext_high to a f le j h within = extended_high a.width a.value f.positive f.fits to j le h within

-- ---- shifts

pub shl_bits : ShlBits
shl_bits a b j h within =
    ap (λ n. has_bit n j) (cond-false _ _ _ (lt-leb a.width b.value (omega arith)))
    ∙ ap (λ n. eqb n 1) (bit_at-mod (a.value * 2 ^ b.value) a.width j within ∙ ap (λ n. bit_at n j) (sym (add-zero (a.value * 2 ^ b.value))) ∙ bit_at_cat_high a.value b.value 0 j (pow_pos b.value) h)

pub shl_low : ShlLow
shl_low a b j h =
    elim (cases_lt b.value a.width) [
      | inl within ↦
          ap (λ n. has_bit n j) (cond-false _ _ _ (lt-leb a.width b.value within))
          ∙ ap (λ n. eqb n 1) (bit_at-mod (a.value * 2 ^ b.value) a.width j (omega arith) ∙ ap (λ n. bit_at n j) (sym (add-zero (a.value * 2 ^ b.value))) ∙ bit_at_cat_low a.value b.value 0 j h ∙ bit_at-zero j)
      | inr past ↦ ap (λ n. has_bit n j) (cond-true _ _ _ (le-leb a.width b.value past)) ∙ ap (λ n. eqb n 1) (bit_at-zero j)
    ]

pub lshr_bits : LShrBits
lshr_bits a b f j =
    elim (cases_lt b.value a.width) [
      | inl within ↦
          ap (λ n. has_bit n j) (cond-false _ _ _ (lt-leb a.width b.value within)) ∙ ap (λ n. eqb n 1) (bit_at-shr a.value b.value j)
          ∙ ap (has_bit a.value) (add_comm b.value j)
      | inr past ↦
          ap (λ n. has_bit n j) (cond-true _ _ _ (le-leb a.width b.value past)) ∙ ap (λ n. eqb n 1) (bit_at-zero j)
          ∙ sym (ap (λ n. eqb n 1) (bit_at_above a.value a.width (j + b.value) f.fits (omega arith)))
    ]

pub ashr_bits : AShrBits
ashr_bits a b f j h =
    ap (λ n. has_bit n j) (cond-false _ _ _ (lt-leb a.width b.value (omega arith)))
    ∙ shifted_low a.width a.value f.positive f.fits b.value j (omega arith) h

pub ashr_high : AShrHigh
ashr_high a b f j h past =
    elim (cases_lt b.value a.width) [
      | inl within ↦
          ap (λ n. has_bit n j) (cond-false _ _ _ (lt-leb a.width b.value within)) ∙ shifted_high a.width a.value f.positive f.fits b.value j h past
      | inr all ↦
          ap (λ n. has_bit n j) (cond-true _ _ _ (le-leb a.width b.value all)) ∙ sign_at_each a.width a.value f.positive f.fits j h
    ]
