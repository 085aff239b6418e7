use Rattle.term_tree.specs.Terms.{array_height}
use Rattle.term_tree.specs.View.{array_tree}
use Rattle.term_copy.proofs.copies.+copy_array.Given as goal

abbrev pub decreases-copy_array : goal.decreases-copy_array
decreases-copy_array l = array_height (array_tree l.array.now)
