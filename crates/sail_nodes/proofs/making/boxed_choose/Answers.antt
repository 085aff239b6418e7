use Rattle.sail_nodes.proofs.IfLemmas.{tree_choose}
use Rattle.sail_nodes.proofs.making.boxed_choose.Goals as goal

pub returns : goal.returns
returns c = tree_choose c.args.at c.args.test c.args.yes c.args.other
