-- The variables of terms.
use Rattle.std.specs.Prelude.{⊤, ℕ, List}
use Rattle.std.specs.List.{Contains}
use Rattle.term_tree.specs.Terms.{Text, Tree, lit, var, one, two, three, sel, ArrayTree, array, upd, splice}

-- what holds of a variable's name and width, and of an array variable's name
module _ (V : Text → ℕ → Type 0) (A : Text → Type 0) where
  -- a term of whose variables it holds
  abbrev pub HasVariables : Tree → Type 0
  HasVariables (lit b) = ⊤
  HasVariables (var x w) = V x w
  HasVariables (one op a) = HasVariables a
  HasVariables (two op a b) = HasVariables a × HasVariables b
  HasVariables (three op a b c) = HasVariables a × HasVariables b × HasVariables c
  HasVariables (sel f i) = A f × HasVariables i

  -- an array term of whose variables it holds
  abbrev pub ArrayHasVariables : ArrayTree → Type 0
  ArrayHasVariables (array f) = A f
  ArrayHasVariables (upd of i e) = ArrayHasVariables of × HasVariables i × HasVariables e
  ArrayHasVariables (splice of below i) = ArrayHasVariables of × ArrayHasVariables below × HasVariables i

-- variables, each with its width, and array variables
pub record Variables : Type 0 where
  pub bits : List (Text × ℕ)
  pub arrays : List Text

-- a term whose variables are among these
abbrev pub HoldsOnly : Variables → Tree → Type 0
HoldsOnly vs t = HasVariables (λ x w. Contains vs.bits (x, w)) (λ f. Contains vs.arrays f) t

-- an array term whose variables are among these
abbrev pub ArrayHoldsOnly : Variables → ArrayTree → Type 0
ArrayHoldsOnly vs f = ArrayHasVariables (λ x w. Contains vs.bits (x, w)) (λ f. Contains vs.arrays f) f
