-- The code's replacements as plain data, and what they have to be.
use Rattle.std.specs.Prelude.{List, All, map}
use Rattle.term_tree.specs.declared.term.Term.{Term}
use Rattle.term_tree.specs.declared.term.ArrayTerm.{ArrayTerm}
use Rattle.term_tree.specs.Terms.{Text, Tree, ArrayTree, IsTerm, IsArrayTerm}
use Rattle.term_tree.specs.View.{tree, array_tree}
use Rattle.term_replace.specs.Replacing.{Replacements}

-- a name, and the term that stands for it
abbrev pub named_tree : Text × Term → Text × Tree
named_tree p = (p.0, tree p.1)

-- a name, and the array term that stands for it
abbrev pub named_array : Text × ArrayTerm → Text × ArrayTree
named_array p = (p.0, array_tree p.1)

-- pairs of names and terms, and of names and array terms, as replacements
abbrev pub replacements : List (Text × Term) → List (Text × ArrayTerm) → Replacements
replacements bits arrays = record { terms = map named_tree bits; arrays = map named_array arrays }

-- replacements by terms, typed and not too high
pub record AreTerms (by : Replacements) : Type 0 where
  pub terms : All (λ p. IsTerm p.1) by.terms
  pub arrays : All (λ p. IsArrayTerm p.1) by.arrays
