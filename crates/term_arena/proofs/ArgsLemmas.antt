-- Lists of one to three arguments.
use Rattle.std.proofs.Common.{◌≡◌, ◌<◌, ◌≤◌, List, [], ◌∷◌, length, map, get_or, refl, arith}
use Rattle.bv_bits.specs.declared.Op.{Op}
use Rattle.term_tree.specs.Terms.{Tree, applied, IsTyped}
use Rattle.term_arena.proofs.MeaningLemmas.{blank_untyped}

module _ {A : Type 0} where
  pub one_of : (xs : List A) (d : A) → 1 ≤ length xs → length xs < 2 → xs ≡ get_or xs 0 d ∷ []
  one_of [] d h k = absurd (omega arith)
  one_of (a ∷ []) d h k = refl
  one_of (a ∷ b ∷ xs) d h k = absurd (omega arith)

  pub two_of : (xs : List A) (d : A) → 2 ≤ length xs → length xs < 3 → xs ≡ get_or xs 0 d ∷ get_or xs 1 d ∷ []
  two_of [] d h k = absurd (omega arith)
  two_of (a ∷ []) d h k = absurd (omega arith)
  two_of (a ∷ b ∷ []) d h k = refl
  two_of (a ∷ b ∷ c ∷ xs) d h k = absurd (omega arith)

  pub three_of : (xs : List A) (d : A) → 3 ≤ length xs → length xs < 4 → xs ≡ get_or xs 0 d ∷ get_or xs 1 d ∷ get_or xs 2 d ∷ []
  three_of [] d h k = absurd (omega arith)
  three_of (a ∷ []) d h k = absurd (omega arith)
  three_of (a ∷ b ∷ []) d h k = absurd (omega arith)
  three_of (a ∷ b ∷ c ∷ []) d h k = refl
  three_of (a ∷ b ∷ c ∷ e ∷ xs) d h k = absurd (omega arith)

  -- a typed application has one to three arguments
  pub few_args : (op : Op) (f : A → Tree) (xs : List A) → IsTyped (applied op (map f xs)) → (1 ≤ length xs) × (length xs < 4)
  few_args op f [] h = absurd (blank_untyped h)
  few_args op f (a ∷ []) h = (omega arith, omega arith)
  few_args op f (a ∷ b ∷ []) h = (omega arith, omega arith)
  few_args op f (a ∷ b ∷ c ∷ []) h = (omega arith, omega arith)
  few_args op f (a ∷ b ∷ c ∷ d ∷ xs) h = absurd (blank_untyped h)
