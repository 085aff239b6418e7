-- The code's terms as plain data, one form at a time.
use Rattle.std.proofs.Common.{◌≡◌, ℕ, List, map, sym, ap, ◌∙◌}
use Rattle.bv_bits.specs.declared.Bits.{Bits}
use Rattle.bv_bits.specs.declared.Op.{Op}
use Rattle.term_tree.specs.declared.term.Term.{Term, fold-roll-Term}
use Rattle.term_tree.specs.declared.term.Term.TheOpen.{Term-F}
use Rattle.term_tree.specs.declared.term.Term.TheVariants as term
use Rattle.term_tree.specs.Terms.{Text, Tree, lit, var, sel, applied}
use Rattle.term_tree.specs.View.{tree, term_step}

pub tree_app : (op : Op) (args : List Term) → tree (term.App op args) ≡ applied op (map tree args)
tree_app op args = ap tree (sym (term.rolls-App op args)) ∙ fold-roll-Term Tree term_step (Term-F.App op args)

pub tree_lit : (b : Bits) → tree (term.Lit b) ≡ lit b
tree_lit b = ap tree (sym (term.rolls-Lit b)) ∙ fold-roll-Term Tree term_step (Term-F.Lit b)

pub tree_var : (x : Text) (w : ℕ) → tree (term.Var x w) ≡ var x w
tree_var x w = ap tree (sym (term.rolls-Var x w)) ∙ fold-roll-Term Tree term_step (Term-F.Var x w)

pub tree_sel : (f : Text) (i : Term) → tree (term.Sel f i) ≡ sel f (tree i)
tree_sel f i = ap tree (sym (term.rolls-Sel f i)) ∙ fold-roll-Term Tree term_step (Term-F.Sel f i)
