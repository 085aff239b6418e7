use Rattle.sail_nodes.proofs.IfLemmas.{tree_when}
use Rattle.sail_nodes.proofs.making.boxed_when.Goals as goal

pub returns : goal.returns
returns c = tree_when c.args.at c.args.test c.args.yes
