use Rattle.bit_text.proofs.TokenLemmas.{number_form, number_stands}
use Rattle.bit_text.proofs.laws.number_texts.Goals as goal

pub returns : goal.returns
returns c = record { form = number_form; stands = number_stands }
