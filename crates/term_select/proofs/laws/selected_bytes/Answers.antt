use Rattle.term_select.proofs.SelectingLemmas.{select_results, select_typed, select_asked, select_value}
use Rattle.term_select.proofs.laws.selected_bytes.Goals as goal

pub returns : goal.returns
returns c = record {
  on_the_way = select_results;
  typed = select_typed;
  typed_on_the_way = select_asked;
  value = select_value;
}
