use Rattle.term_read.proofs.SpelledLemmas.{spelled_is_read, spelled_once}
use Rattle.term_read.proofs.SoundLemmas.{read_is_spelled}
use Rattle.term_read.proofs.laws.spelled_terms.Goals as goal

pub returns : goal.returns
returns c = record { read = read_is_spelled; spelled = spelled_is_read; once = spelled_once }
