use Rattle.std.proofs.Common.{ap, ◌∙◌}
use Rattle.term_read.specs.ReadingView.{array_frames_of}
use Rattle.term_read.proofs.ReadingLemmas.{no_array_open}
use Rattle.term_read.proofs.reading.read_array.Goals as goal

pub array_among-requires-clause-none : goal.array_among-requires-clause-none
array_among-requires-clause-none c = ap array_frames_of c.new-arrays.ensures ∙ no_array_open
