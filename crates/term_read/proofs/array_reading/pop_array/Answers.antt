use Rattle.term_read.proofs.ReadingLemmas.{array_popped}
use Rattle.term_read.proofs.array_reading.pop_array.Goals as goal

pub returns : goal.returns
returns c = array_popped _ _ _ c.pop.ensures
