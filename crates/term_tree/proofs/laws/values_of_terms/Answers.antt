use Rattle.term_tree.proofs.FitLemmas.{value_fits}
use Rattle.term_tree.proofs.PairLemmas.{values_are}
use Rattle.term_tree.proofs.laws.values_of_terms.Goals as goal

pub returns : goal.returns
returns c = record {
  fits = value_fits;
  written = values_are;
}
