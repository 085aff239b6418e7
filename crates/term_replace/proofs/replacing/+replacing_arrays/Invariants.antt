use Rattle.std.proofs.Common.{◌+◌, ◌*◌, max}
use Rattle.term_tree.specs.Terms.{array_height}
use Rattle.term_tree.specs.View.{array_tree}
use Rattle.term_replace.proofs.replacing.+replacing_arrays.Given as goal

abbrev pub decreases-replaced_in_array : goal.decreases-replaced_in_array
decreases-replaced_in_array l = 2 * array_height (array_tree l.array.now)

abbrev pub decreases-replaced_in_update : goal.decreases-replaced_in_update
decreases-replaced_in_update l = 2 * array_height (array_tree l.of.now) + 1

abbrev pub decreases-replaced_in_splice : goal.decreases-replaced_in_splice
decreases-replaced_in_splice l = 2 * max (array_height (array_tree l.of.now)) (array_height (array_tree l.below.now)) + 1
