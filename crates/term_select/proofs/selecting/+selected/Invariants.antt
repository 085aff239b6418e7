use Rattle.term_tree.specs.Terms.{array_height}
use Rattle.term_tree.specs.View.{array_tree}
use Rattle.term_select.proofs.selecting.+selected.Given as goal

abbrev pub decreases-selected : goal.decreases-selected
decreases-selected l = array_height (array_tree l.of.now)
