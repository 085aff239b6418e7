use Rattle.state_core.proofs.Reached.{store_is_stored}
use Rattle.state_core.proofs.laws.stores.Goals as goal

pub returns : goal.returns
returns c = λ ranges at n value w. store_is_stored ranges at n value w
