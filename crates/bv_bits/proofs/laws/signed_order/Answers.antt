use Rattle.bv_bits.proofs.CarryLemmas.{turned_bits, signed_by_turned}
use Rattle.bv_bits.proofs.laws.signed_order.Goals as goal

pub returns : goal.returns
returns c = record { bits = turned_bits; order = signed_by_turned }
