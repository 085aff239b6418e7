use Rattle.bv_bits.proofs.CornerLemmas.{ite_at_one, ite_else}
use Rattle.bv_bits.proofs.laws.choice.Goals as goal

pub returns : goal.returns
returns c = record { at_one = ite_at_one; otherwise = ite_else }
