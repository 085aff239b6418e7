use Rattle.trace_round_trip.proofs.PrintedLemmas.{printed_is_cut, printed_is_read}
use Rattle.trace_round_trip.proofs.laws.printed_is_read.Goals as goal

pub returns : goal.returns
returns c = record { cut = printed_is_cut; read = printed_is_read }
