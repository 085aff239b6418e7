use Rattle.std.specs.List.{Contains}
use Rattle.term_select.proofs.SelectedPartLemmas.{selected_whole, selected_variables}
use Rattle.term_select.proofs.laws.parts_of_selected_bytes.Goals as goal

pub returns : goal.returns
returns c = record {
  divisions = selected_whole;
  variables = λ vs. selected_variables (λ x w. Contains vs.bits (x, w)) (λ f. Contains vs.arrays f);
}
