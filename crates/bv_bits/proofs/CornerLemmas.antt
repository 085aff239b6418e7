-- What the operators give at the corners of their table.
use Rattle.std.proofs.Common.{◌≡◌, ℕ, suc, ◌+◌, ◌-◌, ◌*◌, ◌/◌, ◌%◌, ◌^◌, ◌<◌, false, leb, eqb, ℤ, pos, negsuc, neg_ℤ, int_div, int_rem, refl, ap, sym, ◌∙◌, inl, inr, arith}
use Rattle.std.proofs.lemmas.Bool.{cond-true, cond-false, eq-eqb, ne_eqb, le-leb, lt-leb, cases_lt}
use Rattle.std.proofs.lemmas.Bool.Decides.{nat_tests}
use Rattle.std.proofs.lemmas.Int.{ints}
use Rattle.std.specs.Int.{int_shr}
use Rattle.std.proofs.Math.Nat.{mod-eq_of_lt, sub-zero, mod_self, add-mod_right, mul-one, div-one, mod-one, zero-mod}
use Rattle.std.proofs.lemmas.Nat.{pow_pos}
use Rattle.bv_bits.specs.declared.Bits.{Bits}
use Rattle.bv_bits.proofs.WordLemmas.{two_halves, signed_above, extend_below, extend_above}
use Rattle.bv_bits.specs.Bits.{IsBits, ones, signed, wrapped}
use Rattle.bv_bits.specs.Corners.{UDivByZero, URemByZero, SDivByZero, SRemByZero, SDivOfLeast, SRemOfLeast, ShlPastWidth, LShrPastWidth, AShrPastWidth, ShlByZero, LShrByZero, AShrByZero, NegOfZero, AddWithin, AddPast, SubWithin, SubPast, IteAtOne, IteElse, EqTells, NeTells, ULtTells, ULeTells, UGtTells, UGeTells, SLtTells, SLeTells, SGtTells, SGeTells, ImpTells, ExtractOfAll, ZExtToOwn, SExtToOwn}

pub udiv_by_zero : UDivByZero
udiv_by_zero a b h = cond-true _ _ _ (eq-eqb b.value 0 h)

pub urem_by_zero : URemByZero
urem_by_zero a b h = cond-true _ _ _ (eq-eqb b.value 0 h)

pub sdiv_by_zero : SDivByZero
sdiv_by_zero a b h = cond-true _ _ _ (eq-eqb b.value 0 h)

pub srem_by_zero : SRemByZero
srem_by_zero a b h = cond-true _ _ _ (eq-eqb b.value 0 h)

pub shl_past_width : ShlPastWidth
shl_past_width a b h = cond-true _ _ _ (le-leb a.width b.value h)

pub lshr_past_width : LShrPastWidth
lshr_past_width a b h = cond-true _ _ _ (le-leb a.width b.value h)

pub ashr_past_width : AShrPastWidth
ashr_past_width a b h = cond-true _ _ _ (le-leb a.width b.value h)

pub ite_at_one : IteAtOne
ite_at_one t a b h = cond-true _ _ _ (eq-eqb t.value 1 h)

pub ite_else : IteElse
ite_else t a b h = cond-false _ _ _ (ne_eqb t.value 1 h)

pub eq_tells : EqTells
eq_tells a b = grind (arith, nat_tests)

pub ne_tells : NeTells
ne_tells a b = grind (arith, nat_tests)

pub ult_tells : ULtTells
ult_tells a b = grind (arith, nat_tests)

pub ule_tells : ULeTells
ule_tells a b = grind (arith, nat_tests)

pub ugt_tells : UGtTells
ugt_tells a b = grind (arith, nat_tests)

pub uge_tells : UGeTells
uge_tells a b = grind (arith, nat_tests)

pub slt_tells : SLtTells
slt_tells a b = grind (arith, ints)

pub sle_tells : SLeTells
sle_tells a b = grind (arith, ints)

pub sgt_tells : SGtTells
sgt_tells a b = grind (arith, ints)

pub sge_tells : SGeTells
sge_tells a b = grind (arith, ints)

pub imp_tells : ImpTells
imp_tells a b = grind (arith, nat_tests)

pub neg_of_zero : NegOfZero
neg_of_zero a h = rw (h, sub-zero, mod_self) refl

pub add_within : AddWithin
add_within a b h = mod-eq_of_lt h

-- what reaches the modulus once
mod_once : (n m r : ℕ) → n ≡ r + m → r < m → n % m ≡ r
mod_once n m r e h = ap (λ k. k % m) e ∙ add-mod_right r m ∙ mod-eq_of_lt h

pub add_past : AddPast
add_past a b fa fb e h =
    let wide : 2 ^ a.width ≡ 2 ^ b.width = ap (λ k. 2 ^ k) e in
    omega (arith, mod_once (a.value + b.value) (2 ^ a.width) (a.value + b.value - 2 ^ a.width) (omega arith) (omega arith))

pub sub_within : SubWithin
sub_within a b fa h =
    omega (arith, mod_once (a.value + (2 ^ a.width - b.value)) (2 ^ a.width) (a.value - b.value) (omega arith) (omega arith))

pub sub_past : SubPast
sub_past a b fa fb e h =
    let wide : 2 ^ a.width ≡ 2 ^ b.width = ap (λ k. 2 ^ k) e in
    let below : a.value + (2 ^ a.width - b.value) < 2 ^ a.width = omega arith in
    omega (arith, mod-eq_of_lt below)

-- ---- shifts by nothing

within_width : (a b : Bits) → IsBits a → b.value ≡ 0 → leb a.width b.value ≡ false
within_width a b f h = lt-leb a.width b.value (omega arith)

pub shl_by_zero : ShlByZero
shl_by_zero a b f h =
    cond-false _ _ _ (within_width a b f h) ∙ ap (λ k. a.value * 2 ^ k % 2 ^ a.width) h ∙ ap (λ n. n % 2 ^ a.width) (mul-one a.value) ∙ mod-eq_of_lt f.fits

pub lshr_by_zero : LShrByZero
lshr_by_zero a b f h =
    cond-false _ _ _ (within_width a b f h) ∙ ap (λ k. a.value / 2 ^ k) h ∙ div-one a.value

int_shr-zero : (z : ℤ) → int_shr z 0 ≡ z
int_shr-zero (pos n) = ap pos (div-one n)
int_shr-zero (negsuc n) = ap negsuc (div-one n)

-- what is read in two's complement and taken modulo 2 ^ w again
wrapped-signed : (w x : ℕ) → x < 2 ^ w → wrapped w (signed w x) ≡ x
wrapped-signed w x fits =
    elim (cases_lt x (2 ^ (w - 1))) [
      | inl lt ↦ sym (extend_below w w x fits (omega arith) lt)
      | inr ge ↦
          let same : 2 ^ w - 1 - (2 ^ w - 1 - x) ≡ x = omega arith in
          sym (extend_above w w x fits (omega arith) ge) ∙ same
    ]

pub ashr_by_zero : AShrByZero
ashr_by_zero a b f h =
    cond-false _ _ _ (within_width a b f h) ∙ ap (λ k. wrapped a.width (int_shr (signed a.width a.value) k)) h
    ∙ ap (wrapped a.width) (int_shr-zero (signed a.width a.value)) ∙ wrapped-signed a.width a.value f.fits

-- ---- all bits of a value, and its own width

pub extract_of_all : ExtractOfAll
extract_of_all a f =
    let all : a.width - 1 - 0 + 1 ≡ a.width = omega (arith, f.positive) in
    ap (λ n. n % 2 ^ (a.width - 1 - 0 + 1)) (div-one a.value) ∙ ap (λ k. a.value % 2 ^ k) all ∙ mod-eq_of_lt f.fits

pub zext_to_own : ZExtToOwn
zext_to_own a = refl

pub sext_to_own : SExtToOwn
sext_to_own a f = wrapped-signed a.width a.value f.fits

-- ---- the least signed number by -1

module _ (w : ℕ) (positive : 0 < w) where
  signed-least : signed w (2 ^ (w - 1)) ≡ negsuc (2 ^ (w - 1) - 1)
  signed-least =
      let e : 2 ^ w - 1 - 2 ^ (w - 1) ≡ 2 ^ (w - 1) - 1 = omega (arith, two_halves w positive) in
      signed_above w (2 ^ (w - 1)) (omega arith) ∙ ap negsuc e

  signed-ones : signed w (ones w) ≡ negsuc 0
  signed-ones =
      let e : 2 ^ w - 1 - (2 ^ w - 1) ≡ 0 = omega arith in
      signed_above w (ones w) (omega (arith, two_halves w positive, pow_pos (w - 1))) ∙ ap negsuc e

  ones_not_zero : eqb (ones w) 0 ≡ false
  ones_not_zero = ne_eqb (ones w) 0 (λ e. absurd (omega (arith, two_halves w positive, pow_pos (w - 1))))

  least_by_minus_one : wrapped w (int_div (negsuc (2 ^ (w - 1) - 1)) (negsuc 0)) ≡ 2 ^ (w - 1)
  least_by_minus_one =
      let e : suc (2 ^ (w - 1) - 1) ≡ 2 ^ (w - 1) = omega (arith, pow_pos (w - 1)) in
      let below : 2 ^ (w - 1) < 2 ^ w = omega (arith, two_halves w positive, pow_pos (w - 1)) in
      ap (λ n. n % 2 ^ w) (div-one (suc (2 ^ (w - 1) - 1)) ∙ e) ∙ mod-eq_of_lt below

  rest_of_least : wrapped w (int_rem (negsuc (2 ^ (w - 1) - 1)) (negsuc 0)) ≡ 0
  rest_of_least = ap (λ n. wrapped w (neg_ℤ (pos n))) (mod-one (suc (2 ^ (w - 1) - 1))) ∙ zero-mod (2 ^ w)

pub sdiv_of_least : SDivOfLeast
sdiv_of_least a b f x y =
    let w = a.width in
    rw (x, y) (cond-false _ _ _ (ones_not_zero w f.positive) ∙ rw (signed-least w f.positive, signed-ones w f.positive) (least_by_minus_one w f.positive))

pub srem_of_least : SRemOfLeast
srem_of_least a b f x y =
    let w = a.width in
    rw (x, y) (cond-false _ _ _ (ones_not_zero w f.positive) ∙ rw (signed-least w f.positive, signed-ones w f.positive) (rest_of_least w f.positive))
