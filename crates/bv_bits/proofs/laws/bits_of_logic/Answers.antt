use Rattle.bv_bits.proofs.BitLemmas.{not_bits, and_bits, or_bits, xor_bits, imp_bit, ite_bits, truth_bit}
use Rattle.bv_bits.proofs.laws.bits_of_logic.Goals as goal

pub returns : goal.returns
returns c = record { not = not_bits; and = and_bits; or = or_bits; xor = xor_bits; imp = imp_bit; ite = ite_bits; truth = truth_bit }
