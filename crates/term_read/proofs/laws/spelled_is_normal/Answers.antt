use Rattle.term_read.proofs.NormalSpelledLemmas.{spelled_normal}
use Rattle.term_read.proofs.laws.spelled_is_normal.Goals as goal

pub returns : goal.returns
returns c = spelled_normal
