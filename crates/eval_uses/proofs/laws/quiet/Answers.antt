use Rattle.eval_uses.proofs.EachLemmas.{each_quiet}
use Rattle.eval_uses.proofs.laws.quiet.Goals as goal

pub returns : goal.returns
returns c = each_quiet
