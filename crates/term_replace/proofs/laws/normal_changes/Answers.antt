use Rattle.term_replace.proofs.NormalChangeLemmas.{substituted_normal, substituted_array_normal}
use Rattle.term_replace.proofs.laws.normal_changes.Goals as goal

pub returns : goal.returns
returns c = record { substituted = substituted_normal; substituted_array = substituted_array_normal }
