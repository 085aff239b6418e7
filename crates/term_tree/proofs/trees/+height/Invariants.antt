use Rattle.term_tree.specs.View.{tree}
use Rattle.term_tree.specs.Sizes.{size}
use Rattle.term_tree.proofs.trees.+height.Given as goal

abbrev pub decreases-height : goal.decreases-height
decreases-height l = size (tree l.term.now)
