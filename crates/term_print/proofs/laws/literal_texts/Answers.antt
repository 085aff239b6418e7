use Rattle.term_print.proofs.TokenTextLemmas.{literal_stands, literal_cut}
use Rattle.term_print.proofs.laws.literal_texts.Goals as goal

pub returns : goal.returns
returns c = record { stands = literal_stands; anywhere = literal_cut }
