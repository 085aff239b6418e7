use Rattle.term_round_trip.proofs.ArrayWordLemmas.{array_words_spell}
use Rattle.term_round_trip.proofs.laws.printed_array_words.Goals as goal

pub returns : goal.returns
returns c = array_words_spell
