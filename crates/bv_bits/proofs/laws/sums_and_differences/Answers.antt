use Rattle.bv_bits.proofs.CornerLemmas.{neg_of_zero, add_within, add_past, sub_within, sub_past}
use Rattle.bv_bits.proofs.laws.sums_and_differences.Goals as goal

pub returns : goal.returns
returns c = record { neg = neg_of_zero; add_within = add_within; add_past = add_past; sub_within = sub_within; sub_past = sub_past }
