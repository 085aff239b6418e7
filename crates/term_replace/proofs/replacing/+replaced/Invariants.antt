use Rattle.term_tree.specs.Sizes.{size}
use Rattle.term_tree.specs.View.{tree}
use Rattle.term_replace.proofs.replacing.+replaced.Given as goal

abbrev pub decreases-replaced : goal.decreases-replaced
decreases-replaced l = size (tree l.term.now)
