use Rattle.std.proofs.Common.{◌+◌, ◌*◌}
use Rattle.term_tree.specs.Sizes.{size}
use Rattle.term_tree.specs.View.{tree}
use Rattle.term_print.proofs.printing.+put.Given as goal

abbrev pub decreases-put_term : goal.decreases-put_term
decreases-put_term l = 3 * size (tree l.term.now)

abbrev pub decreases-put_part : goal.decreases-put_part
decreases-put_part l = 3 * size (tree l.term.now) + 1

abbrev pub decreases-put_one : goal.decreases-put_one
decreases-put_one l = 3 * size (tree l.a.now) + 2

abbrev pub decreases-put_two : goal.decreases-put_two
decreases-put_two l = 3 * (size (tree l.a.now) + size (tree l.b.now)) + 2

abbrev pub decreases-put_three : goal.decreases-put_three
decreases-put_three l = 3 * (size (tree l.a.now) + (size (tree l.b.now) + size (tree l.c.now))) + 2

abbrev pub decreases-put_selected : goal.decreases-put_selected
decreases-put_selected l = 3 * size (tree l.at.now) + 2
