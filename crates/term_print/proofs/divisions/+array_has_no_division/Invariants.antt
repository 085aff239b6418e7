use Rattle.term_tree.specs.View.{array_tree}
use Rattle.term_tree.specs.Terms.{array_height}
use Rattle.term_print.proofs.divisions.+array_has_no_division.Given as goal

abbrev pub decreases-array_has_no_division : goal.decreases-array_has_no_division
decreases-array_has_no_division l = array_height (array_tree l.array.now)
