use Rattle.eval_uses.proofs.EachLemmas.{each_kept}
use Rattle.eval_uses.proofs.laws.moments_keep.Goals as goal

pub returns : goal.returns
returns c = each_kept
