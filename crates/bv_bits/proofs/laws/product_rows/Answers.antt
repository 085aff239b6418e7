use Rattle.bv_bits.proofs.CarryLemmas.{product_step}
use Rattle.bv_bits.proofs.laws.product_rows.Goals as goal

pub returns : goal.returns
returns c = product_step
