-- Tests of each number of a range.
use Rattle.std.proofs.Common.{◌≡◌, ◌≢◌, ◌<◌, ℕ, zero, suc, ◌+◌, ◌-◌, Bool, true, false, ◌&&◌, ◌||◌, ◌==◌, List, refl, subst, ap, sym, ◌∙◌, arith}
use Rattle.std.specs.List.{list_all, range_with_len}
use Rattle.std.proofs.lemmas.Bool.{and_parts}
use Rattle.std.proofs.lemmas.Bool.Decides.{nat_tests}
use Rattle.constants_walk.specs.declared.register_places.PlacedValue.{PlacedValue}
use Rattle.constants_walk.specs.Conditions.{covers}
use Rattle.constants_walk.specs.RegisterPlaces.{has}

-- the first of those that are left, and the others
pub rest_of_range : (p : ℕ → Bool) (r n : ℕ) → r < n → list_all p (range_with_len r (n - r)) ≡ (p r && list_all p (range_with_len (r + 1) (n - (r + 1))))
rest_of_range p r n h =
    let e : n - r ≡ suc (n - (r + 1)) = omega arith in
    rw e refl

-- each number of a range passes
each_of_range : (p : ℕ → Bool) (a n k : ℕ) → list_all p (range_with_len a n) ≡ true → k < n → p (a + k) ≡ true
each_of_range p a zero k h l = absurd (omega arith)
each_of_range p a (suc n) zero h l =
    let e : a ≡ a + 0 = omega arith in
    rw e at (and_parts (p a) (list_all p (range_with_len (a + 1) n)) h).0
each_of_range p a (suc n) (suc k) h l =
    let next = each_of_range p (a + 1) n k (and_parts (p a) (list_all p (range_with_len (a + 1) n)) h).1 (omega arith) in
    let e : a + 1 + k ≡ a + suc k = omega arith in
    rw e at next

-- each register but pc has a value
pub covered : (count pc : ℕ) (vs : List PlacedValue) → covers count pc vs ≡ true → (k : ℕ) → k < count → k ≢ pc → has vs k ≡ true
unfolding covers
covered count pc vs h k l other =
    let same : 0 + k ≡ k = omega arith in
    let passes = subst (λ n. (n == pc || has vs n) ≡ true) same (each_of_range (λ k. k == pc || has vs k) 0 count k h l) in
    let not_pc : (k == pc) ≡ false = grind (arith, nat_tests, other) in
    ap (λ b. b || has vs k) (sym not_pc) ∙ passes

-- where the first passes, those behind it decide
pub passed_over : (p : ℕ → Bool) (r n : ℕ) (all : Bool) → r < n → p r ≡ true → list_all p (range_with_len r (n - r)) ≡ all → list_all p (range_with_len (r + 1) (n - (r + 1))) ≡ all
passed_over p r n all l first h = ap (λ b. b && list_all p (range_with_len (r + 1) (n - (r + 1)))) (sym first) ∙ sym (rest_of_range p r n l) ∙ h
