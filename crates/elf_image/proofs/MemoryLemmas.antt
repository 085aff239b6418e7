-- The bytes of a list from an address on, in a map.
use Rattle.std.proofs.Common.{◌≡◌, ◌≢◌, ℕ, zero, suc, ◌+◌, ◌-◌, ◌<◌, ◌≤◌, ◌⊎◌, inl, inr, ⊎_elim, Bool, true, false, cond, List, [], ◌∷◌, ◌++◌, length, get_or, take, drop, refl, sym, ap, ◌∙◌, arith, Some, None, Option}
use Rattle.std.specs.Ordering.{nat_cmp, eq_by_cmp}
use Rattle.std.specs.FinMap.{FinMap, get, insert, get-insert}
use Rattle.std.proofs.lemmas.Cmp.{nat_cmp_total}
use Rattle.std.proofs.lemmas.Bool.{cases_eq, cond-true, cond-false}
use Rattle.std.proofs.lemmas.Bool.Decides.{nat_tests}
use Rattle.state_core.specs.State.{Memory}
use Rattle.elf_image.specs.Segments.{with_bytes}

eq_same : (a : ℕ) → eq_by_cmp nat_cmp a a ≡ true
eq_same a = grind (arith, nat_tests)

eq_other : (q a : ℕ) → q ≢ a → eq_by_cmp nat_cmp q a ≡ false
eq_other q a h = grind (arith, nat_tests)

-- the byte that was put at an address
pub at_key : (m : Memory) (a b q : ℕ) → q ≡ a → get (insert m a b) q ≡ Some b
at_key m a b q e = get-insert nat_cmp_total m a b q ∙ cond-true _ _ _ (ap (λ (k : ℕ). eq_by_cmp nat_cmp k a) e ∙ eq_same a)

-- any other address
pub at_other : (m : Memory) (a b q : ℕ) → q ≢ a → get (insert m a b) q ≡ get m q
at_other m a b q h = get-insert nat_cmp_total m a b q ∙ cond-false _ _ _ (eq_other q a h)

-- an address among those of the bytes
pub inside : (m : Memory) (a q : ℕ) (bytes : List ℕ) → a ≤ q → q < a + length bytes → get (with_bytes m a bytes) q ≡ Some (get_or bytes (q - a) 0)
inside m a q [] h k = absurd (omega (arith, h, k))
inside m a q (b ∷ bytes) h k =
    ⊎_elim (λ e.
    let z : q - a ≡ 0 = omega (arith, e) in at_key (with_bytes m (a + 1) bytes) a b q e ∙ ap (λ (i : ℕ). Some (get_or (b ∷ bytes) i 0)) (sym z))
    (λ n.
    let z : q - a ≡ suc (q - (a + 1)) = omega (arith, n, h) in
    at_other (with_bytes m (a + 1) bytes) a b q n ∙ inside m (a + 1) q bytes (omega (arith, n, h)) (omega (arith, k)) ∙ ap (λ (i : ℕ). Some (get_or (b ∷ bytes) i 0)) (sym z))
    (cases_eq q a)

-- an address before them
pub before : (m : Memory) (a q : ℕ) (bytes : List ℕ) → q < a → get (with_bytes m a bytes) q ≡ get m q
before m a q [] h = refl
before m a q (b ∷ bytes) h = at_other (with_bytes m (a + 1) bytes) a b q (λ e. absurd (omega (arith, e, h))) ∙ before m (a + 1) q bytes (omega (arith, h))

-- an address behind them
pub behind : (m : Memory) (a q : ℕ) (bytes : List ℕ) → a + length bytes ≤ q → get (with_bytes m a bytes) q ≡ get m q
behind m a q [] h = refl
behind m a q (b ∷ bytes) h = at_other (with_bytes m (a + 1) bytes) a b q (λ e. absurd (omega (arith, e, h))) ∙ behind m (a + 1) q bytes (omega (arith, h))
