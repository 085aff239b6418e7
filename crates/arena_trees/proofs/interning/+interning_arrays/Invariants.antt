use Rattle.std.proofs.Common.{◌+◌, ◌*◌, max}
use Rattle.term_tree.specs.Terms.{array_height}
use Rattle.term_tree.specs.View.{array_tree}
use Rattle.arena_trees.proofs.interning.+interning_arrays.Given as goal

abbrev pub decreases-interned_array : goal.decreases-interned_array
decreases-interned_array l = 2 * array_height (array_tree l.term.now)

abbrev pub decreases-interned_updated : goal.decreases-interned_updated
decreases-interned_updated l = 2 * array_height (array_tree l.of.now) + 1

abbrev pub decreases-interned_spliced : goal.decreases-interned_spliced
decreases-interned_spliced l = 2 * max (array_height (array_tree l.of.now)) (array_height (array_tree l.below.now)) + 1
