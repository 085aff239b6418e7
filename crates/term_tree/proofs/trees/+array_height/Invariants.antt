use Rattle.term_tree.specs.Terms.{array_height}
use Rattle.term_tree.specs.View.{array_tree}
use Rattle.term_tree.proofs.trees.+array_height.Given as goal

abbrev pub decreases-array_height : goal.decreases-array_height
decreases-array_height l = array_height (array_tree l.array.now)
