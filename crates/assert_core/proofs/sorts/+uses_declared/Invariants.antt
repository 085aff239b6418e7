use Rattle.term_tree.specs.Terms.{height}
use Rattle.term_tree.specs.View.{tree}
use Rattle.assert_core.proofs.sorts.+uses_declared.Given as goal

abbrev pub decreases-uses_declared : goal.decreases-uses_declared
decreases-uses_declared l = height (tree l.term.now)
