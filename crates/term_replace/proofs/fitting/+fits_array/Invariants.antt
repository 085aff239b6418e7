use Rattle.term_tree.specs.View.{array_tree}
use Rattle.term_tree.specs.Terms.{array_height}
use Rattle.term_replace.proofs.fitting.+fits_array.Given as goal

abbrev pub decreases-fits_array : goal.decreases-fits_array
decreases-fits_array l = array_height (array_tree l.array.now)
