-- Words of 128 bits, cut to w bits.
use Rattle.std.proofs.Common.{◌≡◌, ℕ, zero, suc, ◌+◌, ◌-◌, ◌*◌, ◌/◌, ◌%◌, ◌^◌, ◌<◌, ◌≤◌, ◌↔◌, IsTrue, Bool, true, false, ltb, ℤ, pos, negsuc, neg_ℤ, unsigned_abs, int_div, int_rem, refl, ap, sym, ◌∙◌, subst, inl, inr, arith}
use Rattle.std.specs.Int.{int_shr}
use Rattle.std.proofs.lemmas.Bool.{cond-true, cond-false, lt-ltb, le-ltb, cases_lt, false_from_ne_true}
use Rattle.std.proofs.lemmas.Nat.Bits.{ones_shr}
use Rattle.std.proofs.lemmas.Nat.{pow_pos, pow-add}
use Rattle.std.proofs.Math.Pow.{mod-mod-pow, pow_mono}
use Rattle.std.proofs.Math.Nat.{add-mod-mod, sub-zero, mod-eq_of_lt, mod-le, mod_self, zero-mod, div-le_self}
use Rattle.bv_bits.specs.Bits.{signed, wrapped}

-- a word of 128 bits, shifted down to its top w bits
pub ones_of : (w : ℕ) → w ≤ 128 → (2 ^ 128 - 1) / 2 ^ (128 - w) ≡ 2 ^ w - 1
ones_of w h =
    let within : 128 - w ≤ 128 = omega arith in
    let e : 128 - (128 - w) ≡ w = omega arith in
    ones_shr 128 (128 - w) within ∙ ap (λ k. 2 ^ k - 1) e

-- what wraps at 128 bits and is cut to w is what is cut to w
pub cut_twice : (w n : ℕ) → w ≤ 128 → n % 2 ^ 128 % 2 ^ w ≡ n % 2 ^ w
cut_twice w n h =
    let e : (128 - w) + w ≡ 128 = omega arith in
    ap (λ k. n % 2 ^ k % 2 ^ w) (sym e) ∙ mod-mod-pow n (128 - w) w

pub sub_cut : (m x y : ℕ) → (x + (m - y) % m) % m ≡ (x + (m - y)) % m
sub_cut m x y = add-mod-mod x (m - y) m

-- ---- two's complement

-- the half from which numbers are negative
pub two_halves : (w : ℕ) → 0 < w → 2 ^ w ≡ 2 * 2 ^ (w - 1)
two_halves w h =
    let e : w - 1 + 1 ≡ w = omega arith in
    ap (λ k. 2 ^ k) (sym e) ∙ omega (arith, pow-add 2 (w - 1) 1)

pub signed_below : (w x : ℕ) → x < 2 ^ (w - 1) → signed w x ≡ pos x
signed_below w x h = cond-true (ltb x (2 ^ (w - 1))) (pos x) (negsuc (2 ^ w - 1 - x)) (lt-ltb x (2 ^ (w - 1)) h)

pub signed_above : (w x : ℕ) → 2 ^ (w - 1) ≤ x → signed w x ≡ negsuc (2 ^ w - 1 - x)
signed_above w x h = cond-false (ltb x (2 ^ (w - 1))) (pos x) (negsuc (2 ^ w - 1 - x)) (le-ltb x (2 ^ (w - 1)) h)

abbrev pub sign_of : ℤ → Bool
sign_of (pos n) = false
sign_of (negsuc n) = true

pub sign_is : (w x : ℕ) (r : Bool) → (IsTrue r ↔ (2 ^ (w - 1) ≤ x)) → sign_of (signed w x) ≡ r
sign_is w x r e =
    elim (cases_lt x (2 ^ (w - 1))) [
      | inl lt ↦ ap sign_of (signed_below w x lt) ∙ sym (false_from_ne_true r (λ t. let g : 2 ^ (w - 1) ≤ x = e.0 t in absurd (omega arith)))
      | inr ge ↦ ap sign_of (signed_above w x ge) ∙ sym (e.1 ge)
    ]

pub wrapped_pos : (w n : ℕ) → n < 2 ^ w → wrapped w (pos n) ≡ n
wrapped_pos w n h = mod-eq_of_lt h

pub wrapped_negsuc : (w n : ℕ) → n < 2 ^ w → wrapped w (negsuc n) ≡ 2 ^ w - 1 - n
wrapped_negsuc w n h = ap (λ k. 2 ^ w - 1 - k) (mod-eq_of_lt h)

pub wrapped_neg : (w q : ℕ) → q < 2 ^ w → wrapped w (neg_ℤ (pos q)) ≡ (2 ^ w - q) % 2 ^ w
wrapped_neg w zero h = rw (sub-zero, mod_self) (zero-mod (2 ^ w))
wrapped_neg w (suc n) h =
    let below : n < 2 ^ w = omega arith in
    let less : 2 ^ w - suc n < 2 ^ w = omega arith in
    let e : 2 ^ w - 1 - n ≡ 2 ^ w - suc n = omega arith in
    wrapped_negsuc w n below ∙ e ∙ sym (mod-eq_of_lt less)

pub extend_below : (w to x : ℕ) → x < 2 ^ w → w ≤ to → x < 2 ^ (w - 1) → x ≡ wrapped to (signed w x)
extend_below w to x fits le h =
    let wide : x < 2 ^ to = omega (arith, pow_mono le) in
    sym (ap (wrapped to) (signed_below w x h) ∙ wrapped_pos to x wide)

pub extend_above : (w to x : ℕ) → x < 2 ^ w → w ≤ to → 2 ^ (w - 1) ≤ x → 2 ^ to - 1 - (2 ^ w - 1 - x) ≡ wrapped to (signed w x)
extend_above w to x fits le h =
    let wide : 2 ^ w - 1 - x < 2 ^ to = omega (arith, pow_mono le) in
    sym (ap (wrapped to) (signed_above w x h) ∙ wrapped_negsuc to (2 ^ w - 1 - x) wide)

pub shr_below : (w k x : ℕ) → x < 2 ^ w → x < 2 ^ (w - 1) → x / 2 ^ k ≡ wrapped w (int_shr (signed w x) k)
shr_below w k x fits h =
    let less : x / 2 ^ k < 2 ^ w = omega (arith, div-le_self x (2 ^ k)) in
    sym (ap (λ z. wrapped w (int_shr z k)) (signed_below w x h) ∙ wrapped_pos w (x / 2 ^ k) less)

pub shr_above : (w k x : ℕ) → x < 2 ^ w → 2 ^ (w - 1) ≤ x → 2 ^ w - 1 - (2 ^ w - 1 - x) / 2 ^ k ≡ wrapped w (int_shr (signed w x) k)
shr_above w k x fits h =
    let less : (2 ^ w - 1 - x) / 2 ^ k < 2 ^ w = omega (arith, div-le_self (2 ^ w - 1 - x) (2 ^ k)) in
    sym (ap (λ z. wrapped w (int_shr z k)) (signed_above w x h) ∙ wrapped_negsuc w ((2 ^ w - 1 - x) / 2 ^ k) less)

-- ---- signed quotients, by their magnitudes

abs_below : (w x : ℕ) → 0 < w → x < 2 ^ w → unsigned_abs (signed w x) < 2 ^ w
abs_below w x p h =
    elim (cases_lt x (2 ^ (w - 1))) [
      | inl lt ↦ subst (λ z. unsigned_abs z < 2 ^ w) (sym (signed_below w x lt)) h
      | inr ge ↦
          let half : 0 < 2 ^ (w - 1) = pow_pos (w - 1) in
          let less : suc (2 ^ w - 1 - x) < 2 ^ w = omega arith in
          subst (λ z. unsigned_abs z < 2 ^ w) (sym (signed_above w x ge)) less
    ]

quot_same : (w : ℕ) (a b : ℤ) → unsigned_abs a < 2 ^ w → sign_of a ≡ sign_of b → unsigned_abs a / unsigned_abs b ≡ wrapped w (int_div a b)
quot_same w (pos a) (pos b) h e = sym (wrapped_pos w (a / b) (omega (arith, div-le_self a b)))
quot_same w (pos a) (negsuc b) h e = cc
quot_same w (negsuc a) (pos b) h e = cc
quot_same w (negsuc a) (negsuc b) h e = sym (wrapped_pos w (suc a / suc b) (omega (arith, div-le_self (suc a) (suc b))))

quot_other : (w : ℕ) (a b : ℤ) → unsigned_abs a < 2 ^ w → (sign_of a ≡ sign_of b → ⊥) → (2 ^ w - unsigned_abs a / unsigned_abs b) % 2 ^ w ≡ wrapped w (int_div a b)
quot_other w (pos a) (pos b) h e = absurd (e refl)
quot_other w (pos a) (negsuc b) h e = sym (wrapped_neg w (a / suc b) (omega (arith, div-le_self a (suc b))))
quot_other w (negsuc a) (pos b) h e = sym (wrapped_neg w (suc a / b) (omega (arith, div-le_self (suc a) b)))
quot_other w (negsuc a) (negsuc b) h e = absurd (e refl)

rest_below : (w : ℕ) (a b : ℤ) → unsigned_abs a < 2 ^ w → sign_of a ≡ false → unsigned_abs a % unsigned_abs b ≡ wrapped w (int_rem a b)
rest_below w (pos a) b h e = sym (wrapped_pos w (a % unsigned_abs b) (omega (arith, mod-le a (unsigned_abs b))))
rest_below w (negsuc a) b h e = cc

rest_above : (w : ℕ) (a b : ℤ) → unsigned_abs a < 2 ^ w → sign_of a ≡ true → (2 ^ w - unsigned_abs a % unsigned_abs b) % 2 ^ w ≡ wrapped w (int_rem a b)
rest_above w (pos a) b h e = cc
rest_above w (negsuc a) b h e = sym (wrapped_neg w (suc a % unsigned_abs b) (omega (arith, mod-le (suc a) (unsigned_abs b))))

module _ (w x y : ℕ) (positive : 0 < w) (fits : x < 2 ^ w) where
  pub div_same : (p q : Bool) → sign_of (signed w x) ≡ p → sign_of (signed w y) ≡ q → p ≡ q → unsigned_abs (signed w x) / unsigned_abs (signed w y) ≡ wrapped w (int_div (signed w x) (signed w y))
  div_same p q hp hq e = quot_same w (signed w x) (signed w y) (abs_below w x positive fits) (hp ∙ e ∙ sym hq)

  pub div_other : (p q : Bool) → sign_of (signed w x) ≡ p → sign_of (signed w y) ≡ q → (p ≡ q → ⊥) → (2 ^ w - unsigned_abs (signed w x) / unsigned_abs (signed w y)) % 2 ^ w ≡ wrapped w (int_div (signed w x) (signed w y))
  div_other p q hp hq e = quot_other w (signed w x) (signed w y) (abs_below w x positive fits) (λ s. e (sym hp ∙ s ∙ hq))

  pub rem_below : sign_of (signed w x) ≡ false → unsigned_abs (signed w x) % unsigned_abs (signed w y) ≡ wrapped w (int_rem (signed w x) (signed w y))
  rem_below e = rest_below w (signed w x) (signed w y) (abs_below w x positive fits) e

  pub rem_above : sign_of (signed w x) ≡ true → (2 ^ w - unsigned_abs (signed w x) % unsigned_abs (signed w y)) % 2 ^ w ≡ wrapped w (int_rem (signed w x) (signed w y))
  rem_above e = rest_above w (signed w x) (signed w y) (abs_below w x positive fits) e
