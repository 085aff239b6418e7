use Rattle.bv_bits.proofs.BitLemmas.{concat_low, concat_high, extract_bits, zext_bits, sext_low, sext_high}
use Rattle.bv_bits.proofs.laws.bits_of_parts.Goals as goal

pub returns : goal.returns
returns c = record { concat_low = concat_low; concat_high = concat_high; extract = extract_bits; zext = zext_bits; sext_low = sext_low; sext_high = sext_high }
