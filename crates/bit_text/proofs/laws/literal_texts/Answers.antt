use Rattle.bit_text.proofs.AsciiLemmas.{literal_ascii}
use Rattle.bit_text.proofs.LiteralLemmas.{literal_stands}
use Rattle.bit_text.proofs.TokenLemmas.{literal_is_token}
use Rattle.bit_text.proofs.laws.literal_texts.Goals as goal

pub returns : goal.returns
returns c = record { form = literal_is_token; stands = literal_stands; ascii = literal_ascii }
