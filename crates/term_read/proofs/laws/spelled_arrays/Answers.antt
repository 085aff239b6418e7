use Rattle.term_read.proofs.ArraySpelledLemmas.{spelled_array_is_read, array_spelled_once}
use Rattle.term_read.proofs.ArraySoundLemmas.{read_array_is_spelled}
use Rattle.term_read.proofs.laws.spelled_arrays.Goals as goal

pub returns : goal.returns
returns c = record { read = read_array_is_spelled; spelled = spelled_array_is_read; once = array_spelled_once }
