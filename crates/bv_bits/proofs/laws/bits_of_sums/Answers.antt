use Rattle.bv_bits.proofs.CarryLemmas.{add_bits, sub_bits, neg_bits}
use Rattle.bv_bits.proofs.laws.bits_of_sums.Goals as goal

pub returns : goal.returns
returns c = record { add = add_bits; sub = sub_bits; neg = neg_bits }
