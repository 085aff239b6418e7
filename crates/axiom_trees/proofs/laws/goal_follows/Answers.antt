use Rattle.axiom_trees.proofs.ValueLemmas.{goal_follows}
use Rattle.axiom_trees.proofs.laws.goal_follows.Goals as goal

pub returns : goal.returns
returns c = goal_follows
