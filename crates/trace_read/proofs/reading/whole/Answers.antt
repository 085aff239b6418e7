use Rattle.std.proofs.Common.{ap, ◌∙◌}
use Rattle.trace_read.specs.Gathering.{opens_of}
use Rattle.trace_read.proofs.StackLemmas.{none_open}
use Rattle.trace_read.proofs.reading.whole.Goals as goal

pub among-requires-clause-none_open : goal.among-requires-clause-none_open
among-requires-clause-none_open c = ap opens_of c.new-stack.ensures ∙ none_open
