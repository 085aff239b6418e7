-- What is replaced of terms in which no rule fits.
use Rattle.std.specs.Prelude.{All}
use Rattle.term_tree.specs.Terms.{Tree, ArrayTree}
use Rattle.term_make.specs.Normal.{IsNormal, IsNormalArray}
use Rattle.term_replace.specs.Replacing.{Replacements, substitute, substitute_array}

-- replacements by such terms and array terms
pub record AreNormal (by : Replacements) : Type 0 where
  pub terms : All (λ p. IsNormal p.1) by.terms
  pub arrays : All (λ p. IsNormalArray p.1) by.arrays

-- so is any term whose variables are replaced by normal ones
abbrev pub SubstitutedIsNormal : Type 0
SubstitutedIsNormal = (by : Replacements) (t : Tree) → AreNormal by → IsNormal (substitute by t).it

-- and any array term
abbrev pub SubstitutedArrayIsNormal : Type 0
SubstitutedArrayIsNormal = (by : Replacements) (f : ArrayTree) → AreNormal by → IsNormalArray (substitute_array by f).it
