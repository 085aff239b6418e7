-- The carries of a sum, signed comparison by turned sign bits, and a product row by row.
use Rattle.std.proofs.Common.{◌≡◌, ℕ, zero, suc, ◌+◌, ◌-◌, ◌*◌, ◌/◌, ◌%◌, ◌^◌, ◌<◌, ◌≤◌, Bool, true, false, not, cond, ltb, leb, eqb, refl, ap, sym, ◌∙◌, inl, inr, arith}
use Rattle.std.specs.Int.{bit_at}
use Rattle.std.proofs.lemmas.Bool.{cond-true, cond-false, eq-eqb, ne_eqb, lt-ltb, le-ltb, le-leb, lt-leb, cases_lt}
use Rattle.std.proofs.lemmas.Bool.Decides.{nat_tests}
use Rattle.std.proofs.lemmas.Nat.{pow_pos, pow-add, shr_split, mod-pow-add, mod_below, shr_high}
use Rattle.std.proofs.lemmas.Nat.Bits.{bit_at-lt, bit_at-zero, bit_at_cat_low}
use Rattle.std.proofs.Math.Nat.{add_comm, add-zero, zero-add, mod-eq_of_lt, mod-one}
use Rattle.bv_bits.specs.Bits.{ones, bit}
use Rattle.bv_bits.specs.BitLaws.{has_bit, parity, majority, carry_into, CarryFirst, CarryNext, AddBits, SubBits, NegBits, CarryOut, turned, TurnedBits, SignedByTurned, ProductStep}
use Rattle.bv_bits.proofs.WordLemmas.{two_halves, signed_below, signed_above}
use Rattle.bv_bits.proofs.BitLemmas.{bit_at-mod, has_bit-turned, above_half, top_clear, top_set}

bit_below : (c : Bool) → bit c < 2
bit_below true = omega arith
bit_below false = omega arith

-- ---- the carries

pub carry_first : CarryFirst
carry_first true x y = rw (mod-one x, mod-one y) refl
carry_first false x y = rw (mod-one x, mod-one y) refl

-- two numbers by their bit at place m and what is below it
carry_of_parts : (m q p r s c : ℕ) → q < 2 → p < 2 → r < m → s < m → c < 2 → leb (2 * m) (q * m + r + (p * m + s) + c) ≡ majority (eqb q 1) (eqb p 1) (leb m (r + s + c))
carry_of_parts m zero zero r s c hq hp hr hs hc = grind (arith, nat_tests)
carry_of_parts m zero (suc zero) r s c hq hp hr hs hc = grind (arith, nat_tests)
carry_of_parts m (suc zero) zero r s c hq hp hr hs hc = grind (arith, nat_tests)
carry_of_parts m (suc zero) (suc zero) r s c hq hp hr hs hc = grind (arith, nat_tests)
carry_of_parts m (suc (suc q)) p r s c hq hp hr hs hc = absurd (omega arith)
carry_of_parts m zero (suc (suc p)) r s c hq hp hr hs hc = absurd (omega arith)
carry_of_parts m (suc zero) (suc (suc p)) r s c hq hp hr hs hc = absurd (omega arith)

-- the low j + 1 bits are bit j and what is below it
low_parts : (x j : ℕ) → x % 2 ^ (j + 1) ≡ bit_at x j * 2 ^ j + x % 2 ^ j
low_parts x j = ap (λ k. x % 2 ^ k) (add_comm j 1) ∙ mod-pow-add x 1 j

double : (j : ℕ) → 2 ^ (j + 1) ≡ 2 * 2 ^ j
double j = omega (arith, pow-add 2 j 1)

pub carry_next : CarryNext
carry_next c x y j =
    rw (low_parts x j, low_parts y j, double j)
    (carry_of_parts (2 ^ j) (bit_at x j) (bit_at y j) (x % 2 ^ j) (y % 2 ^ j) (bit c) (bit_at-lt x j) (bit_at-lt y j) (mod_below x (2 ^ j) (pow_pos j)) (mod_below y (2 ^ j) (pow_pos j)) (bit_below c))

-- ---- the bits of a sum

parity_of_numbers : (q p k : ℕ) → k < 2 → eqb ((q + p + k) % 2) 1 ≡ parity (eqb (q % 2) 1) (eqb (p % 2) 1) (eqb k 1)
parity_of_numbers q p k h = grind (arith, nat_tests)

module _ (c : Bool) (x y j : ℕ) where
  low_sum : ℕ
  low_sum = x % 2 ^ j + y % 2 ^ j + bit c

  no_carry : low_sum < 2 ^ j → (x + y + bit c) / 2 ^ j ≡ x / 2 ^ j + y / 2 ^ j + 0
  unfolding low_sum
  no_carry h =
      let e : x + y + bit c ≡ (x / 2 ^ j + y / 2 ^ j + 0) * 2 ^ j + low_sum = omega (arith, shr_split x j, shr_split y j) in
      ap (λ n. n / 2 ^ j) e ∙ shr_high (x / 2 ^ j + y / 2 ^ j + 0) j low_sum h

  one_carry : 2 ^ j ≤ low_sum → (x + y + bit c) / 2 ^ j ≡ x / 2 ^ j + y / 2 ^ j + 1
  unfolding low_sum
  one_carry h =
      let rest : low_sum - 2 ^ j < 2 ^ j = omega (arith, mod_below x (2 ^ j) (pow_pos j), mod_below y (2 ^ j) (pow_pos j), bit_below c) in
      let e : x + y + bit c ≡ (x / 2 ^ j + y / 2 ^ j + 1) * 2 ^ j + (low_sum - 2 ^ j) = omega (arith, shr_split x j, shr_split y j) in
      ap (λ n. n / 2 ^ j) e ∙ shr_high (x / 2 ^ j + y / 2 ^ j + 1) j (low_sum - 2 ^ j) rest

  pub sum_bit : has_bit (x + y + bit c) j ≡ parity (has_bit x j) (has_bit y j) (carry_into c x y j)
  unfolding low_sum
  sum_bit =
      elim (cases_lt low_sum (2 ^ j)) [
        | inl lt ↦
            ap (λ n. eqb (n % 2) 1) (no_carry lt) ∙ parity_of_numbers (x / 2 ^ j) (y / 2 ^ j) 0 (omega arith)
            ∙ ap (parity (has_bit x j) (has_bit y j)) (sym (lt-leb (2 ^ j) low_sum lt))
        | inr ge ↦
            ap (λ n. eqb (n % 2) 1) (one_carry ge) ∙ parity_of_numbers (x / 2 ^ j) (y / 2 ^ j) 1 (omega arith)
            ∙ ap (parity (has_bit x j) (has_bit y j)) (sym (le-leb (2 ^ j) low_sum ge))
      ]

pub add_bits : AddBits
add_bits a b j h =
    ap (λ n. eqb n 1) (bit_at-mod (a.value + b.value) a.width j h) ∙ ap (λ n. has_bit n j) (sym (add-zero (a.value + b.value)))
    ∙ sum_bit false a.value b.value j

-- a difference is a sum with the turned bits and 1
difference_bit : (w x y j : ℕ) → y < 2 ^ w → j < w → has_bit ((x + (2 ^ w - y)) % 2 ^ w) j ≡ parity (has_bit x j) (not (has_bit y j)) (carry_into true x (ones w - y) j)
difference_bit w x y j fits h =
    let e : x + (2 ^ w - y) ≡ x + (2 ^ w - 1 - y) + 1 = omega arith in
    ap (λ n. eqb n 1) (bit_at-mod (x + (2 ^ w - y)) w j h) ∙ ap (λ n. has_bit n j) e ∙ sum_bit true x (2 ^ w - 1 - y) j
    ∙ ap (λ t. parity (has_bit x j) t (carry_into true x (ones w - y) j)) (has_bit-turned w y j fits h)

pub sub_bits : SubBits
sub_bits a b f e j h =
    let wide : 2 ^ a.width ≡ 2 ^ b.width = ap (λ k. 2 ^ k) e in
    difference_bit a.width a.value b.value j (omega (arith, f.fits)) h

pub neg_bits : NegBits
neg_bits a f j h =
    ap (λ n. has_bit (n % 2 ^ a.width) j) (sym (zero-add (2 ^ a.width - a.value))) ∙ difference_bit a.width 0 a.value j f.fits h
    ∙ ap (λ t. parity t (not (has_bit a.value j)) (carry_into true 0 (ones a.width - a.value) j)) (ap (λ n. eqb n 1) (bit_at-zero j))

leb_same : (a b c d : ℕ) → (a ≤ b → c ≤ d) → (c ≤ d → a ≤ b) → leb a b ≡ leb c d
leb_same a b c d f g = grind (arith, nat_tests)

pub carry_out : CarryOut
carry_out w x y fx fy =
    let whole : x % 2 ^ w ≡ x = mod-eq_of_lt fx in
    let less : 2 ^ w - 1 - y < 2 ^ w = omega (arith, pow_pos w) in
    let turned : (2 ^ w - 1 - y) % 2 ^ w ≡ 2 ^ w - 1 - y = mod-eq_of_lt less in
    rw (whole, turned) (leb_same (2 ^ w) (x + (2 ^ w - 1 - y) + 1) y x (λ h. omega arith) (λ h. omega arith))

-- ---- signed comparison

module _ (w x : ℕ) where
  pub turned_below : x < 2 ^ (w - 1) → turned w x ≡ x + 2 ^ (w - 1)
  turned_below h = cond-true _ _ _ (lt-ltb x (2 ^ (w - 1)) h)

  pub turned_above : 2 ^ (w - 1) ≤ x → turned w x ≡ x - 2 ^ (w - 1)
  turned_above h = cond-false _ _ _ (le-ltb x (2 ^ (w - 1)) h)

ltb_same : (a b c d : ℕ) → (a < b → c < d) → (c < d → a < b) → ltb a b ≡ ltb c d
ltb_same a b c d f g = grind (arith, nat_tests)

pub signed_by_turned : SignedByTurned
signed_by_turned w x y positive fx fy =
    elim (cases_lt x (2 ^ (w - 1))) [
      | inl x_low ↦
          elim (cases_lt y (2 ^ (w - 1))) [
            | inl y_low ↦
                rw (signed_below w x x_low, signed_below w y y_low, turned_below w x x_low, turned_below w y y_low)
                (ltb_same x y (x + 2 ^ (w - 1)) (y + 2 ^ (w - 1)) (λ h. omega arith) (λ h. omega arith))
            | inr y_high ↦
                let above : y - 2 ^ (w - 1) ≤ x + 2 ^ (w - 1) = omega (arith, two_halves w positive) in
                rw (signed_below w x x_low, signed_above w y y_high, turned_below w x x_low, turned_above w y y_high)
                (sym (le-ltb (x + 2 ^ (w - 1)) (y - 2 ^ (w - 1)) above))
          ]
      | inr x_high ↦
          elim (cases_lt y (2 ^ (w - 1))) [
            | inl y_low ↦
                let below : x - 2 ^ (w - 1) < y + 2 ^ (w - 1) = omega (arith, two_halves w positive) in
                rw (signed_above w x x_high, signed_below w y y_low, turned_above w x x_high, turned_below w y y_low)
                (sym (lt-ltb (x - 2 ^ (w - 1)) (y + 2 ^ (w - 1)) below))
            | inr y_high ↦
                rw (signed_above w x x_high, signed_above w y y_high, turned_above w x x_high, turned_above w y y_high)
                (ltb_same (2 ^ w - 1 - y) (2 ^ w - 1 - x) (x - 2 ^ (w - 1)) (y - 2 ^ (w - 1)) (λ h. omega arith) (λ h. omega arith))
          ]
    ]

turned_low : (w x j : ℕ) → j < w - 1 → has_bit (turned w x) j ≡ has_bit x j
turned_low w x j h =
    elim (cases_lt x (2 ^ (w - 1))) [
      | inl lt ↦
          let e : x + 2 ^ (w - 1) ≡ 1 * 2 ^ (w - 1) + x = omega arith in
          ap (λ n. has_bit n j) (turned_below w x lt ∙ e) ∙ ap (λ n. eqb n 1) (bit_at_cat_low 1 (w - 1) x j h)
      | inr ge ↦
          ap (λ n. has_bit n j) (turned_above w x ge) ∙ ap (λ n. eqb n 1) (sym (bit_at_cat_low 1 (w - 1) (x - 2 ^ (w - 1)) j h))
          ∙ ap (λ n. has_bit n j) (above_half w x ge)
    ]

turned_top : (w x : ℕ) → 0 < w → x < 2 ^ w → has_bit (turned w x) (w - 1) ≡ not (has_bit x (w - 1))
turned_top w x positive fits =
    elim (cases_lt x (2 ^ (w - 1))) [
      | inl lt ↦
          let within : x + 2 ^ (w - 1) < 2 ^ w = omega (arith, two_halves w positive) in
          ap (λ n. has_bit n (w - 1)) (turned_below w x lt) ∙ top_set w (x + 2 ^ (w - 1)) positive within (omega arith)
          ∙ ap not (sym (top_clear w x lt))
      | inr ge ↦
          let rest : x - 2 ^ (w - 1) < 2 ^ (w - 1) = omega (arith, two_halves w positive) in
          ap (λ n. has_bit n (w - 1)) (turned_above w x ge) ∙ top_clear w (x - 2 ^ (w - 1)) rest ∙ ap not (sym (top_set w x positive fits ge))
    ]

pub turned_bits : TurnedBits
turned_bits w x j positive fits h =
    elim (cases_lt j (w - 1)) [
      | inl lt ↦ turned_low w x j lt ∙ sym (cond-false _ _ _ (ne_eqb j (w - 1) (λ e. absurd (omega arith))))
      | inr ge ↦
          let top : j ≡ w - 1 = omega arith in
          rw top (turned_top w x positive fits ∙ sym (cond-true _ _ _ (eq-eqb (w - 1) (w - 1) refl)))
    ]

-- ---- products

row_of_bit : (x b m l : ℕ) → b < 2 → x * (b * m + l) ≡ x * l + cond (eqb b 1) (x * m) 0
row_of_bit x zero m l h = omega arith
row_of_bit x (suc zero) m l h = omega arith
row_of_bit x (suc (suc b)) m l h = absurd (omega arith)

pub product_step : ProductStep
product_step x y r =
    ap (λ n. x * n) (low_parts y r) ∙ row_of_bit x (bit_at y r) (2 ^ r) (y % 2 ^ r) (bit_at-lt y r)
