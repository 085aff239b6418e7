use Rattle.eval_uses.proofs.EachLemmas.{each_ends, each_does}
use Rattle.eval_uses.proofs.laws.alike_ends.Goals as goal

pub returns-clause-ends : goal.returns-clause-ends
returns-clause-ends c = each_ends

pub returns-clause-same : goal.returns-clause-same
returns-clause-same c = each_does
