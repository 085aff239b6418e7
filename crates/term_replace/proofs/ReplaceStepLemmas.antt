-- All that is asked for when variables are replaced is what the rules make.
use Rattle.std.proofs.Common.{◌-◌, []}
use Rattle.std.specs.Prelude.{All}
use Rattle.std.proofs.lemmas.List.Elements.{All-append, All-nil}
use Rattle.term_tree.specs.Terms.{Tree, lit, var, one, two, three, sel, ArrayTree, array, upd, splice}
use Rattle.term_make.specs.Making.{IsMade}
use Rattle.term_replace.specs.Replacing.{Replacements, replaced_array, substitute, substitute_array}
use Rattle.term_make.proofs.StepLemmas.{IsResult, made_results, results_then}
use Rattle.term_select.proofs.SelectingLemmas.{select_results}

pub substitute_results : (by : Replacements) (t : Tree) → All (λ a. IsMade a.0 a.1) (substitute by t).asked
substitute_results by (lit b) = All-nil IsResult
substitute_results by (var x w) = All-nil IsResult
substitute_results by (one op a) =
    results_then (substitute by a) _ (substitute_results by a) (made_results (one op (substitute by a).it))
substitute_results by (two op a b) =
    results_then (substitute by a) _ (substitute_results by a)
    (results_then (substitute by b) _ (substitute_results by b) (made_results (two op (substitute by a).it (substitute by b).it)))
substitute_results by (three op a b c) =
    results_then (substitute by a) _ (substitute_results by a)
    (results_then (substitute by b) _ (substitute_results by b)
    (results_then (substitute by c) _ (substitute_results by c) (made_results (three op (substitute by a).it (substitute by b).it (substitute by c).it))))
substitute_results by (sel f i) =
    results_then (substitute by i) _ (substitute_results by i) (select_results (replaced_array by f) (substitute by i).it)

pub substitute_array_results : (by : Replacements) (f : ArrayTree) → All (λ a. IsMade a.0 a.1) (substitute_array by f).asked
substitute_array_results by (array f) = All-nil IsResult
substitute_array_results by (upd of i e) =
    All-append IsResult (substitute_array by of).asked _ (substitute_array_results by of)
    (results_then (substitute by i) _ (substitute_results by i)
    (results_then (substitute by e) [] (substitute_results by e) (All-nil IsResult)))
substitute_array_results by (splice of below i) =
    All-append IsResult (substitute_array by of).asked _ (substitute_array_results by of)
    (All-append IsResult (substitute_array by below).asked _ (substitute_array_results by below)
    (results_then (substitute by i) [] (substitute_results by i) (All-nil IsResult)))
