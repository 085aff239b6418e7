use Rattle.bv_bits.proofs.CarryLemmas.{carry_first, carry_next, carry_out}
use Rattle.bv_bits.proofs.laws.carries.Goals as goal

pub returns : goal.returns
returns c = record { first = carry_first; next = carry_next; out = carry_out }
