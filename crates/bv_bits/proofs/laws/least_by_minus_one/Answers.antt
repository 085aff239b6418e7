use Rattle.bv_bits.proofs.CornerLemmas.{sdiv_of_least, srem_of_least}
use Rattle.bv_bits.proofs.laws.least_by_minus_one.Goals as goal

pub returns : goal.returns
returns c = record { sdiv = sdiv_of_least; srem = srem_of_least }
