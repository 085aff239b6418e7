-- A number below a power of two.
use Rattle.std.proofs.Common.{◌≡◌, ℕ, ◌+◌, ◌*◌, ◌/◌, ◌^◌, ◌<◌, nat_eq, nat_lt, Bool, true, false, refl, sym, subst, arith}
use Rattle.std.proofs.Math.Nat.{lt-div-mul-add, div-eq_of_lt}
use Rattle.std.proofs.lemmas.Nat.{pow_pos}
use Rattle.std.proofs.lemmas.Bool.{ltb-true, lt-ltb, eqb-true, eq-eqb}

both : (a b : Bool) → (a ≡ true → b ≡ true) → (b ≡ true → a ≡ true) → a ≡ b
both true true f g = refl
both true false f g = sym (f refl)
both false true f g = g refl
both false false f g = refl

at : (v p q : ℕ) → v < q * p + p → (v < p → q ≡ 0) → nat_eq q 0 ≡ nat_lt v p
at v p q near small = both (nat_eq q 0) (nat_lt v p) (λ h. one h) (λ h. other h)
  where
    one : nat_eq q 0 ≡ true → nat_lt v p ≡ true
    one h = let e = eqb-true q 0 h in let f : v < 0 * p + p = subst (λ (k : ℕ). v < k * p + p) e near in lt-ltb v p (omega (arith, f))

    other : nat_lt v p ≡ true → nat_eq q 0 ≡ true
    other h = eq-eqb q 0 (small (ltb-true v p h))

-- it is one whose quotient is zero
pub below : (v w : ℕ) → nat_eq (v / 2 ^ w) 0 ≡ nat_lt v (2 ^ w)
below v w = at v (2 ^ w) (v / 2 ^ w) (lt-div-mul-add (pow_pos w)) (λ h. div-eq_of_lt h)
