-- Whether no statement is left behind one.
use Rattle.std.proofs.Common.{◌≡◌, ℕ, ◌+◌, ◌-◌, ◌<◌, List, [], ◌∷◌, length, drop, refl, ◌∙◌, arith, nat_eq, length-drop}
use Rattle.std.proofs.lemmas.Bool.Decides.{nat_tests}
use Rattle.std.specs.Prelude.{map}
use Rattle.sail_syntax.specs.declared.tree.Stmt.{Stmt}
use Rattle.sail_syntax.specs.View.{step_of, steps_of}
use Rattle.sail_text.specs.Expressions.{is_done}

done_of : (ys : List Stmt) → is_done (steps_of (map step_of ys)) ≡ nat_eq (length ys) 0
done_of [] = refl
done_of (y ∷ ys) = grind (arith, nat_tests)

same_test : (n m k : ℕ) → m < n → k ≡ n - (m + 1) → nat_eq k 0 ≡ nat_eq (m + 1) n
same_test n m k h e = grind (arith, nat_tests)

pub done_drop : (xs : List Stmt) (i : ℕ) → i < length xs → is_done (steps_of (map step_of (drop (i + 1) xs))) ≡ nat_eq (i + 1) (length xs)
done_drop xs i h = done_of (drop (i + 1) xs) ∙ same_test (length xs) i (length (drop (i + 1) xs)) h (length-drop (i + 1) xs)
