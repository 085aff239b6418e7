use Rattle.term_tree.specs.Sizes.{size}
use Rattle.term_tree.specs.View.{tree}
use Rattle.term_copy.proofs.parts.+add_parts.Given as goal

abbrev pub decreases-add_parts : goal.decreases-add_parts
decreases-add_parts l = size (tree l.term.now)
