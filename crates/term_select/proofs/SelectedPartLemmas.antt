-- What is selected holds no division and no variable but its parts'.
use Rattle.std.proofs.Common.{ℕ, refl}
use Rattle.bv_bits.specs.declared.Op.TheVariants.{Eq, ULt, Ite}
use Rattle.term_tree.specs.Terms.{Text, Tree, two, three, ArrayTree, array, upd, splice}
use Rattle.term_tree.specs.Divisions.{HasNoDivision, ArrayHasNoDivision}
use Rattle.term_tree.specs.Variables.{HasVariables, ArrayHasVariables}
use Rattle.term_make.specs.Making.{make}
use Rattle.term_make.proofs.DivisionLemmas.{make_whole}
use Rattle.term_make.proofs.VariableLemmas.{make_variables}
use Rattle.term_select.specs.Selecting.{select}

pub selected_whole : (f : ArrayTree) (i : Tree) → ArrayHasNoDivision f → HasNoDivision i → HasNoDivision (select f i).it
selected_whole (array f) i h k = k
selected_whole (upd of j e) i h k =
    make_whole (three Ite (make (two Eq i j)).it e (select of i).it) (refl, make_whole (two Eq i j) (refl, k, h.1), h.2, selected_whole of i h.0 k)
selected_whole (splice of below j) i h k =
    make_whole (three Ite (make (two ULt i j)).it (select below i).it (select of i).it) (refl, make_whole (two ULt i j) (refl, k, h.2), selected_whole below i h.1 k, selected_whole of i h.0 k)

module _ (V : Text → ℕ → Type 0) (A : Text → Type 0) where
  pub selected_variables : (f : ArrayTree) (i : Tree) → ArrayHasVariables V A f → HasVariables V A i → HasVariables V A (select f i).it
  selected_variables (array f) i h k = (h, k)
  selected_variables (upd of j e) i h k =
      make_variables V A (three Ite (make (two Eq i j)).it e (select of i).it) (make_variables V A (two Eq i j) (k, h.1), h.2, selected_variables of i h.0 k)
  selected_variables (splice of below j) i h k =
      make_variables V A (three Ite (make (two ULt i j)).it (select below i).it (select of i).it) (make_variables V A (two ULt i j) (k, h.2), selected_variables below i h.1 k, selected_variables of i h.0 k)
