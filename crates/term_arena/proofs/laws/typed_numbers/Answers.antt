use Rattle.term_arena.proofs.MeaningLemmas.{term_within, array_within}
use Rattle.term_arena.proofs.laws.typed_numbers.Goals as goal

pub returns : goal.returns
returns c = record { terms = term_within; arrays = array_within }
