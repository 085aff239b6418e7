use Rattle.term_replace.proofs.ReplaceStepLemmas.{substitute_results, substitute_array_results}
use Rattle.term_replace.proofs.ReplaceLemmas.{substitute_typed, substitute_array_typed, substitute_asked, substitute_array_asked, substitute_value, substitute_byte, replaced_are_values}
use Rattle.term_replace.proofs.laws.replaced_variables.Goals as goal

pub returns : goal.returns
returns c = record {
  on_the_way = substitute_results;
  arrays_on_the_way = substitute_array_results;
  typed = substitute_typed;
  arrays_typed = substitute_array_typed;
  typed_on_the_way = substitute_asked;
  arrays_typed_on_the_way = substitute_array_asked;
  value = substitute_value;
  bytes = substitute_byte;
  are_values = replaced_are_values;
}
