use Rattle.sail_reader.proofs.ReadingLemmas.{is_spelled, is_read, is_one}
use Rattle.sail_reader.proofs.laws.spelled_texts.Goals as goal

pub returns : goal.returns
returns c = record { found = is_spelled; only = is_read; one = is_one }
