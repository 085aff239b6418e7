use Rattle.term_tree.specs.View.{tree}
use Rattle.term_tree.specs.Sizes.{size}
use Rattle.term_tree.proofs.trees.+width.Given as goal

abbrev pub decreases-width : goal.decreases-width
decreases-width l = size (tree l.term.now)
