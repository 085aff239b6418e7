-- What is replaced holds no division and no variable but its parts'.
use Rattle.std.proofs.Common.{ℕ}
use Rattle.std.specs.Prelude.{bytes_eq}
use Rattle.term_tree.specs.Terms.{Text, Tree, lit, var, one, two, three, sel, ArrayTree, array, upd, splice}
use Rattle.term_tree.specs.Divisions.{HasNoDivision, ArrayHasNoDivision}
use Rattle.term_tree.specs.Variables.{HasVariables, ArrayHasVariables}
use Rattle.term_tree.proofs.FoundLemmas.{found, always}
use Rattle.term_make.proofs.DivisionLemmas.{make_whole}
use Rattle.term_make.proofs.VariableLemmas.{make_variables}
use Rattle.term_select.proofs.SelectedPartLemmas.{selected_whole, selected_variables}
use Rattle.term_replace.specs.Replacing.{Replacements, replaced_var, replaced_array, substitute, substitute_array}
use Rattle.term_replace.specs.Laws.{AreWhole}

-- ---- divisions

module _ (by : Replacements) (ok : AreWhole by) where
  replaced_whole : (x : Text) (w : ℕ) → HasNoDivision (replaced_var by x w)
  replaced_whole x w =
      found HasNoDivision (λ p. bytes_eq p.0 x) (λ p. p.1) by.terms (var x w) (always (λ p. HasNoDivision p.1) (λ p. bytes_eq p.0 x) by.terms ok.terms) tt

  replaced_array_whole : (f : Text) → ArrayHasNoDivision (replaced_array by f)
  replaced_array_whole f =
      found ArrayHasNoDivision (λ p. bytes_eq p.0 f) (λ p. p.1) by.arrays (array f) (always (λ p. ArrayHasNoDivision p.1) (λ p. bytes_eq p.0 f) by.arrays ok.arrays) tt

pub substituted_whole : (by : Replacements) (t : Tree) → AreWhole by → HasNoDivision t → HasNoDivision (substitute by t).it
substituted_whole by (lit b) ok h = tt
substituted_whole by (var x w) ok h = replaced_whole by ok x w
substituted_whole by (one op a) ok h = make_whole (one op (substitute by a).it) (h.0, substituted_whole by a ok h.1)
substituted_whole by (two op a b) ok h =
    make_whole (two op (substitute by a).it (substitute by b).it) (h.0, substituted_whole by a ok h.1, substituted_whole by b ok h.2)
substituted_whole by (three op a b c) ok h =
    make_whole (three op (substitute by a).it (substitute by b).it (substitute by c).it) (h.0, substituted_whole by a ok h.1, substituted_whole by b ok h.2, substituted_whole by c ok h.3)
substituted_whole by (sel f i) ok h = selected_whole (replaced_array by f) (substitute by i).it (replaced_array_whole by ok f) (substituted_whole by i ok h)

pub substituted_array_whole : (by : Replacements) (f : ArrayTree) → AreWhole by → ArrayHasNoDivision f → ArrayHasNoDivision (substitute_array by f).it
substituted_array_whole by (array f) ok h = replaced_array_whole by ok f
substituted_array_whole by (upd of i e) ok h = (substituted_array_whole by of ok h.0, substituted_whole by i ok h.1, substituted_whole by e ok h.2)
substituted_array_whole by (splice of below i) ok h = (substituted_array_whole by of ok h.0, substituted_array_whole by below ok h.1, substituted_whole by i ok h.2)

-- ---- variables

module _ (V : Text → ℕ → Type 0) (A : Text → Type 0) where
  module _ (by : Replacements) where
    abbrev ComesTo : Text → ℕ → Type 0
    ComesTo x w = HasVariables V A (replaced_var by x w)

    abbrev ArrayComesTo : Text → Type 0
    ArrayComesTo f = ArrayHasVariables V A (replaced_array by f)

    pub substituted_variables : (t : Tree) → HasVariables ComesTo ArrayComesTo t → HasVariables V A (substitute by t).it
    substituted_variables (lit b) h = tt
    substituted_variables (var x w) h = h
    substituted_variables (one op a) h = make_variables V A (one op (substitute by a).it) (substituted_variables a h)
    substituted_variables (two op a b) h =
        make_variables V A (two op (substitute by a).it (substitute by b).it) (substituted_variables a h.0, substituted_variables b h.1)
    substituted_variables (three op a b c) h =
        make_variables V A (three op (substitute by a).it (substitute by b).it (substitute by c).it) (substituted_variables a h.0, substituted_variables b h.1, substituted_variables c h.2)
    substituted_variables (sel f i) h = selected_variables V A (replaced_array by f) (substitute by i).it h.0 (substituted_variables i h.1)

    pub substituted_array_variables : (f : ArrayTree) → ArrayHasVariables ComesTo ArrayComesTo f → ArrayHasVariables V A (substitute_array by f).it
    substituted_array_variables (array f) h = h
    substituted_array_variables (upd of i e) h = (substituted_array_variables of h.0, substituted_variables i h.1, substituted_variables e h.2)
    substituted_array_variables (splice of below i) h = (substituted_array_variables of h.0, substituted_array_variables below h.1, substituted_variables i h.2)
