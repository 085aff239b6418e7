use Rattle.std.proofs.Common.{◌≡◌, true, subst}
use Rattle.term_tree.specs.Terms.{same_op, same_tree}
use Rattle.term_tree.proofs.SameLemmas.{same_op_is, op_itself, same_is, tree_itself}
use Rattle.term_tree.proofs.laws.same_terms.Goals as goal

pub returns : goal.returns
returns c = record {
  operators = λ a b. (same_op_is a b, λ e. subst (λ o. same_op a o ≡ true) e (op_itself a));
  terms = λ s t. (same_is s t, λ e. subst (λ u. same_tree s u ≡ true) e (tree_itself s));
}
