use Rattle.term_tree.specs.View.{tree}
use Rattle.term_tree.specs.Sizes.{size}
use Rattle.term_replace.proofs.fitting.+fits.Given as goal

abbrev pub decreases-fits : goal.decreases-fits
decreases-fits l = size (tree l.term.now)
