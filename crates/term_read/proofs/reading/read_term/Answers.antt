use Rattle.std.proofs.Common.{ap, ◌∙◌}
use Rattle.term_read.specs.ReadingView.{frames_of}
use Rattle.term_read.proofs.ReadingLemmas.{none_open}
use Rattle.term_read.proofs.reading.read_term.Goals as goal

pub term_among-requires-clause-none : goal.term_among-requires-clause-none
term_among-requires-clause-none c = ap frames_of c.new-stack.ensures ∙ none_open
