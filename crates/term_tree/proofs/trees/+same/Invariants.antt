use Rattle.term_tree.specs.View.{tree}
use Rattle.term_tree.specs.Sizes.{size}
use Rattle.term_tree.proofs.trees.+same.Given as goal

abbrev pub decreases-same : goal.decreases-same
decreases-same l = size (tree l.one.now)
