use Rattle.term_read.proofs.ReadingLemmas.{popped}
use Rattle.term_read.proofs.term_reading.pop.Goals as goal

pub returns : goal.returns
returns c = popped _ _ _ c.pop.ensures
