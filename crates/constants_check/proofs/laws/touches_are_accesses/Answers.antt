use Rattle.constants_check.proofs.Touching.{touches_at}
use Rattle.constants_check.proofs.laws.touches_are_accesses.Goals as goal

pub returns : goal.returns
returns c = touches_at
