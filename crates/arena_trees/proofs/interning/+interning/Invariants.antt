use Rattle.std.proofs.Common.{◌+◌, ◌*◌, max}
use Rattle.term_tree.specs.Terms.{height}
use Rattle.term_tree.specs.View.{tree}
use Rattle.arena_trees.proofs.interning.+interning.Given as goal

abbrev pub decreases-interned : goal.decreases-interned
decreases-interned l = 2 * height (tree l.term.now)

abbrev pub decreases-interned_two : goal.decreases-interned_two
decreases-interned_two l = 2 * max (height (tree l.a.now)) (height (tree l.b.now)) + 1

abbrev pub decreases-interned_three : goal.decreases-interned_three
decreases-interned_three l = 2 * max (height (tree l.a.now)) (max (height (tree l.b.now)) (height (tree l.c.now))) + 1
