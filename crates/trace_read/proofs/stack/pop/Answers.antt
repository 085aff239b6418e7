use Rattle.trace_read.proofs.StackLemmas.{popped}
use Rattle.trace_read.proofs.stack.pop.Goals as goal

pub returns : goal.returns
returns c = popped _ _ _ c.pop.ensures
