use Rattle.std.proofs.Common.{◌+◌, ◌*◌, max}
use Rattle.term_tree.specs.Terms.{array_height}
use Rattle.term_tree.specs.View.{array_tree}
use Rattle.term_print.proofs.printing.+put_arrays.Given as goal

abbrev pub decreases-put_array : goal.decreases-put_array
decreases-put_array l = 3 * array_height (array_tree l.array.now)

abbrev pub decreases-put_array_part : goal.decreases-put_array_part
decreases-put_array_part l = 3 * array_height (array_tree l.array.now) + 1

abbrev pub decreases-put_update : goal.decreases-put_update
decreases-put_update l = 3 * array_height (array_tree l.of.now) + 2

abbrev pub decreases-put_splice : goal.decreases-put_splice
decreases-put_splice l = 3 * max (array_height (array_tree l.of.now)) (array_height (array_tree l.below.now)) + 2
