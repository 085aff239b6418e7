use Rattle.term_round_trip.proofs.WordLemmas.{words_spell}
use Rattle.term_round_trip.proofs.laws.printed_words.Goals as goal

pub returns : goal.returns
returns c = words_spell
