use Rattle.bv_bits.proofs.BitLemmas.{shl_bits, shl_low, lshr_bits, ashr_bits, ashr_high}
use Rattle.bv_bits.proofs.laws.bits_of_shifts.Goals as goal

pub returns : goal.returns
returns c = record { shl = shl_bits; shl_low = shl_low; lshr = lshr_bits; ashr = ashr_bits; ashr_high = ashr_high }
