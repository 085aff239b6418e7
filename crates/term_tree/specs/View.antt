-- The code's terms as plain data.
use Rattle.term_tree.specs.declared.term.Term.{Term}
use Rattle.term_tree.specs.declared.term.Term.TheOpen.{Term-F}
use Rattle.term_tree.specs.declared.term.Term.TheFolds.{fold-Term}
use Rattle.term_tree.specs.declared.term.ArrayTerm.{ArrayTerm}
use Rattle.term_tree.specs.declared.term.ArrayTerm.TheOpen.{ArrayTerm-F}
use Rattle.term_tree.specs.declared.term.ArrayTerm.TheFolds.{fold-ArrayTerm}
use Rattle.term_tree.specs.Terms.{Tree, lit, var, sel, ArrayTree, array, upd, splice, applied}

-- a term whose parts are plain
abbrev pub term_step : Term-F Tree → Tree
term_step (Term-F.Lit b) = lit b
term_step (Term-F.Var x width) = var x width
term_step (Term-F.App op args) = applied op args
term_step (Term-F.Sel f i) = sel f i

-- a term
abbrev pub tree : Term → Tree
tree = fold-Term Tree term_step

-- an array term whose parts are plain
abbrev pub array_step : ArrayTerm-F ArrayTree → ArrayTree
array_step (ArrayTerm-F.Var f) = array f
array_step (ArrayTerm-F.Upd of at by) = upd of (tree at) (tree by)
array_step (ArrayTerm-F.Splice of below at) = splice of below (tree at)

-- an array term
abbrev pub array_tree : ArrayTerm → ArrayTree
array_tree = fold-ArrayTerm ArrayTree array_step
