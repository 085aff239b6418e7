use Rattle.term_round_trip.proofs.ReadBackLemmas.{read_back, cut_back, read_array_back, cut_array_back}
use Rattle.term_round_trip.proofs.laws.read_is_read_back.Goals as goal

pub returns : goal.returns
returns c = record { term = read_back; term_cut = cut_back; array = read_array_back; array_cut = cut_array_back }
