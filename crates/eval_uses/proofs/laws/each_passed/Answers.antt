use Rattle.eval_uses.proofs.EachLemmas.{each_passed}
use Rattle.eval_uses.proofs.laws.each_passed.Goals as goal

pub returns : goal.returns
returns c = each_passed
