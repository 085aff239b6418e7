use Rattle.term_tree.proofs.AgreeLemmas.{values_agree, bytes_agree}
use Rattle.term_tree.proofs.laws.agreeing_values.Goals as goal

pub returns : goal.returns
returns c = record { values = values_agree; bytes = bytes_agree }
