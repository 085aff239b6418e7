use Rattle.term_tree.specs.Terms.{array_height}
use Rattle.term_tree.specs.View.{array_tree}
use Rattle.assert_core.proofs.sorts.+array_uses_declared.Given as goal

abbrev pub decreases-array_uses_declared : goal.decreases-array_uses_declared
decreases-array_uses_declared l = array_height (array_tree l.array.now)
