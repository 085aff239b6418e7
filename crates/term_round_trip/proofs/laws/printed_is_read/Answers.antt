use Rattle.term_round_trip.proofs.PrintedReadLemmas.{printed_read}
use Rattle.term_round_trip.proofs.laws.printed_is_read.Goals as goal

pub returns : goal.returns
returns c = printed_read
