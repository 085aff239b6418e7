use Rattle.std.specs.List.{Contains}
use Rattle.term_replace.proofs.PartChangeLemmas.{substituted_whole, substituted_array_whole, substituted_variables, substituted_array_variables}
use Rattle.term_replace.proofs.laws.parts_of_replaced_terms.Goals as goal

pub returns : goal.returns
returns c = record {
  divisions = substituted_whole;
  array_divisions = substituted_array_whole;
  variables = λ vs. substituted_variables (λ x w. Contains vs.bits (x, w)) (λ f. Contains vs.arrays f);
  array_variables = λ vs. substituted_array_variables (λ x w. Contains vs.bits (x, w)) (λ f. Contains vs.arrays f);
}
