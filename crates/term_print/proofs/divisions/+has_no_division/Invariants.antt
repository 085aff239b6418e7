use Rattle.term_tree.specs.View.{tree}
use Rattle.term_tree.specs.Sizes.{size}
use Rattle.term_print.proofs.divisions.+has_no_division.Given as goal

abbrev pub decreases-has_no_division : goal.decreases-has_no_division
decreases-has_no_division l = size (tree l.term.now)
