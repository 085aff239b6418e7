use Rattle.constants_check.proofs.Accepting.{accepting}
use Rattle.constants_check.proofs.laws.acceptance_is_safe.Goals as goal

pub returns : goal.returns
returns c = accepting
