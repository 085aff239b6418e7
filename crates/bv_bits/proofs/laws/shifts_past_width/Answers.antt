use Rattle.bv_bits.proofs.CornerLemmas.{shl_past_width, lshr_past_width, ashr_past_width}
use Rattle.bv_bits.proofs.laws.shifts_past_width.Goals as goal

pub returns : goal.returns
returns c = record { shl = shl_past_width; lshr = lshr_past_width; ashr = ashr_past_width }
