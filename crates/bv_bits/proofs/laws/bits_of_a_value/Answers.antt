use Rattle.bv_bits.proofs.BitLemmas.{same_bits, no_bit_past_width}
use Rattle.bv_bits.proofs.laws.bits_of_a_value.Goals as goal

pub returns : goal.returns
returns c = record { same = same_bits; past_width = no_bit_past_width }
