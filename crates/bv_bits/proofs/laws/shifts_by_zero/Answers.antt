use Rattle.bv_bits.proofs.CornerLemmas.{shl_by_zero, lshr_by_zero, ashr_by_zero}
use Rattle.bv_bits.proofs.laws.shifts_by_zero.Goals as goal

pub returns : goal.returns
returns c = record { shl = shl_by_zero; lshr = lshr_by_zero; ashr = ashr_by_zero }
