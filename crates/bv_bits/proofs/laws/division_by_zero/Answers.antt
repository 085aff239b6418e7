use Rattle.bv_bits.proofs.CornerLemmas.{udiv_by_zero, urem_by_zero, sdiv_by_zero, srem_by_zero}
use Rattle.bv_bits.proofs.laws.division_by_zero.Goals as goal

pub returns : goal.returns
returns c = record { udiv = udiv_by_zero; urem = urem_by_zero; sdiv = sdiv_by_zero; srem = srem_by_zero }
