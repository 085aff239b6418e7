use Rattle.term_tree.specs.View.{tree}
use Rattle.term_tree.specs.Sizes.{size}
use Rattle.term_tree.proofs.values.+value_in.Given as goal

abbrev pub decreases-value_in : goal.decreases-value_in
decreases-value_in g l = size (tree l.term.now)
