-- What a call that selects answers has the value of the array's byte.
use Rattle.std.proofs.Common.{◌≡◌, ap, sym, ◌∙◌}
use Rattle.std.specs.Prelude.{IfOk, Result, Ok, Err}
use Rattle.term_tree.specs.declared.term.Term.{Term}
use Rattle.term_tree.specs.declared.term.TermFault.{TermFault}
use Rattle.term_tree.specs.View.{tree}
use Rattle.term_tree.specs.Terms.{Tree, ArrayTree, IsTypedArray, IsIndex}
use Rattle.term_tree.specs.Values.{Values, IsValues, value, byte, byte_at}
use Rattle.term_select.specs.Selecting.{select}
use Rattle.term_make.specs.Answers.{Answers}
use Rattle.term_make.proofs.AnswerLemmas.{within_is}
use Rattle.term_select.proofs.SelectingLemmas.{select_value}

-- what is selected has the value of the array's byte
pub selected_value : (f : ArrayTree) (i : Tree) (r : Result Term TermFault) → IsTypedArray f → IsIndex i → Answers tree (select f i) r
    → IfOk r (λ t. (v : Values) → IsValues v → value v (tree t) ≡ byte (byte_at v f (value v i).value))
selected_value f i (Ok t) h k a = λ v hv. ap (value v) (sym (within_is (select f i) (tree t) a).1) ∙ select_value v f i hv h k
selected_value f i (Err x) h k a = tt
