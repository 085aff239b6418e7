use Rattle.term_round_trip.proofs.DeclaredLemmas.{read_declared, read_array_declared}
use Rattle.term_round_trip.proofs.laws.read_is_declared.Goals as goal

pub returns : goal.returns
returns c = record { term = read_declared; array = read_array_declared }
