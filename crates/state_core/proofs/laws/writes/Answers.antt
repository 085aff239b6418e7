use Rattle.state_core.proofs.Written.{write_is}
use Rattle.state_core.proofs.laws.writes.Goals as goal

pub returns : goal.returns
returns c = λ m after at n value e. write_is m after at n value e
