use Rattle.trace_round_trip.proofs.PrintedLemmas.{read_is_readable}
use Rattle.trace_round_trip.proofs.laws.read_is_readable.Goals as goal

pub returns : goal.returns
returns c = read_is_readable
