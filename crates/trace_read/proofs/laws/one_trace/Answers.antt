use Rattle.trace_read.proofs.CompleteLemmas.{spelled_is_read, spelled_once}
use Rattle.trace_read.proofs.SoundLemmas.{read_is_spelled}
use Rattle.trace_read.proofs.laws.one_trace.Goals as goal

pub returns : goal.returns
returns c = record { read = read_is_spelled; spelled = spelled_is_read; once = spelled_once }
