-- Laws of what is replaced, and typed replacements.
use Rattle.std.specs.Prelude.{◌≡◌, ℕ, All}
use Rattle.term_tree.specs.Terms.{Tree, ArrayTree, IsTyped, IsTypedArray, width_of}
use Rattle.term_tree.specs.Values.{Values, IsValues, value, byte_at}
use Rattle.term_tree.specs.Divisions.{HasNoDivision, ArrayHasNoDivision}
use Rattle.term_tree.specs.Variables.{HasVariables, ArrayHasVariables, Variables, HoldsOnly, ArrayHoldsOnly}
use Rattle.term_make.specs.Making.{IsMade}
use Rattle.term_replace.specs.Replacing.{replaced_var, replaced_array, Replacements, Fits, FitsArray, substitute, substitute_array, replaced_values}

-- ---- replacements

-- replacements by typed terms
pub record AreTyped (by : Replacements) : Type 0 where
  pub terms : All (λ p. IsTyped p.1) by.terms
  pub arrays : All (λ p. IsTypedArray p.1) by.arrays

-- ---- laws of what is replaced

-- each application that is asked for on the way stands with what is made of it
abbrev pub ReplacedAreMade : Type 0
ReplacedAreMade = (by : Replacements) (t : Tree) → All (λ a. IsMade a.0 a.1) (substitute by t).asked

-- the same for arrays
abbrev pub ReplacedArraysAreMade : Type 0
ReplacedArraysAreMade = (by : Replacements) (f : ArrayTree) → All (λ a. IsMade a.0 a.1) (substitute_array by f).asked

-- a term with replaced variables is typed, and as wide
abbrev pub ReplacedIsTyped : Type 0
ReplacedIsTyped = (by : Replacements) (t : Tree) → AreTyped by → Fits by t → IsTyped t → IsTyped (substitute by t).it × (width_of (substitute by t).it ≡ width_of t)

-- so is an array
abbrev pub ReplacedArrayIsTyped : Type 0
ReplacedArrayIsTyped = (by : Replacements) (f : ArrayTree) → AreTyped by → FitsArray by f → IsTypedArray f → IsTypedArray (substitute_array by f).it

-- and so is each application that is asked for on the way, and what is made of it
abbrev pub ReplacedAreTyped : Type 0
ReplacedAreTyped = (by : Replacements) (t : Tree) → AreTyped by → Fits by t → IsTyped t → All (λ a. IsTyped a.0 × IsTyped a.1) (substitute by t).asked

-- the same for arrays
abbrev pub ReplacedArraysAreTyped : Type 0
ReplacedArraysAreTyped =
    (by : Replacements) (f : ArrayTree) → AreTyped by → FitsArray by f → IsTypedArray f → All (λ a. IsTyped a.0 × IsTyped a.1) (substitute_array by f).asked

-- its value is that of the term where each replaced variable has its replacement's value
abbrev pub ReplacedKeepsValue : Type 0
ReplacedKeepsValue =
    (by : Replacements) (v : Values) (t : Tree) → IsValues v → AreTyped by → Fits by t → IsTyped t → value v (substitute by t).it ≡ value (replaced_values by v) t

-- the same for each byte of an array
abbrev pub ReplacedKeepsBytes : Type 0
ReplacedKeepsBytes =
    (by : Replacements) (v : Values) (f : ArrayTree) (k : ℕ) → IsValues v → AreTyped by → FitsArray by f → IsTypedArray f → byte_at v (substitute_array by f).it k ≡ byte_at (replaced_values by v) f k

-- the values in which replaced variables have their replacements' values are values
abbrev pub ReplacedAreValues : Type 0
ReplacedAreValues = (by : Replacements) (v : Values) → IsValues v → AreTyped by → IsValues (replaced_values by v)

-- ---- laws of what a term holds

-- replacements that hold no division
pub record AreWhole (by : Replacements) : Type 0 where
  pub terms : All (λ p. HasNoDivision p.1) by.terms
  pub arrays : All (λ p. ArrayHasNoDivision p.1) by.arrays

-- a term whose variables are replaced by terms that hold no variables but these
abbrev pub ReplacedHoldsOnly : Variables → Replacements → Tree → Type 0
ReplacedHoldsOnly vs by t = HasVariables (λ x w. HoldsOnly vs (replaced_var by x w)) (λ f. ArrayHoldsOnly vs (replaced_array by f)) t

-- the same of an array term
abbrev pub ReplacedArrayHoldsOnly : Variables → Replacements → ArrayTree → Type 0
ReplacedArrayHoldsOnly vs by f = ArrayHasVariables (λ x w. HoldsOnly vs (replaced_var by x w)) (λ f. ArrayHoldsOnly vs (replaced_array by f)) f

-- a term without divisions, its variables replaced by such terms, holds none
abbrev pub SubstitutedHasNoDivision : Type 0
SubstitutedHasNoDivision = (by : Replacements) (t : Tree) → AreWhole by → HasNoDivision t → HasNoDivision (substitute by t).it

-- the same of an array term
abbrev pub SubstitutedArrayHasNoDivision : Type 0
SubstitutedArrayHasNoDivision = (by : Replacements) (f : ArrayTree) → AreWhole by → ArrayHasNoDivision f → ArrayHasNoDivision (substitute_array by f).it

-- a term with replaced variables holds no variable but those of what stands for its variables
abbrev pub SubstitutedHoldsOnly : Type 0
SubstitutedHoldsOnly = (vs : Variables) (by : Replacements) (t : Tree) → ReplacedHoldsOnly vs by t → HoldsOnly vs (substitute by t).it

-- the same of an array term
abbrev pub SubstitutedArrayHoldsOnly : Type 0
SubstitutedArrayHoldsOnly = (vs : Variables) (by : Replacements) (f : ArrayTree) → ReplacedArrayHoldsOnly vs by f → ArrayHoldsOnly vs (substitute_array by f).it
