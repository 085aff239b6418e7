use Rattle.std.specs.List.{Contains}
use Rattle.term_make.proofs.DivisionLemmas.{make_whole}
use Rattle.term_make.proofs.VariableLemmas.{make_variables}
use Rattle.term_make.proofs.laws.parts_of_made_terms.Goals as goal

pub returns : goal.returns
returns c = record {
  divisions = make_whole;
  variables = λ vs. make_variables (λ x w. Contains vs.bits (x, w)) (λ f. Contains vs.arrays f);
}
