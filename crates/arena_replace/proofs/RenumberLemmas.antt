-- Numbers that stand for others, by pairs and one after the other.
use Rattle.std.proofs.Common.{◌≡◌, ℕ, Bool, true, false, cond, List, [], ◌∷◌, ◌++◌, Option, Some, None, refl}
use Rattle.std.specs.Prelude.{nat_eq}
use Rattle.std.specs.Option.{option_or}
use Rattle.term_arena.specs.declared.node.TermId.{TermId}
use Rattle.term_arena.specs.declared.node.ArrayId.{ArrayId}
use Rattle.arena_replace.specs.Renumbering.{first_term, first_array}

later : {A : Type 0} (b : Bool) (x : A) (rest more whole : Option A) → whole ≡ option_or rest more → cond b (Some x) whole ≡ option_or (cond b (Some x) rest) more
later true x rest more whole e = refl
later false x rest more whole e = e

pub first_term-push : (xs : List (TermId × TermId)) (p : TermId × TermId) (n : ℕ) → first_term (xs ++ p ∷ []) n ≡ option_or (first_term xs n) (cond (nat_eq p.0.number n) (Some p.1.number) None)
first_term-push [] p n = refl
first_term-push (x ∷ xs) p n = later (nat_eq x.0.number n) x.1.number (first_term xs n) _ _ (first_term-push xs p n)

pub first_array-push : (xs : List (ArrayId × ArrayId)) (p : ArrayId × ArrayId) (n : ℕ) → first_array (xs ++ p ∷ []) n ≡ option_or (first_array xs n) (cond (nat_eq p.0.number n) (Some p.1.number) None)
first_array-push [] p n = refl
first_array-push (x ∷ xs) p n = later (nat_eq x.0.number n) x.1.number (first_array xs n) _ _ (first_array-push xs p n)
