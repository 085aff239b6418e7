use Rattle.std.proofs.Common.{◌≡◌, ◌++◌, ◌+◌, ◌*◌, [], map, drop}
use Rattle.term_tree.specs.Terms.{IsTyped}
use Rattle.trace_plain.specs.Terms.{OfTraces}
use Rattle.trace_plain.specs.Trace.{size, end_size, all_size}
use Rattle.trace_plain.specs.View.{trace_of, traces}
use Rattle.trace_tree.specs.View.{end_in, plain_in}
use Rattle.trace_tree.proofs.copying.+copy.Given as goal

abbrev pub decreases-copy_onto : goal.decreases-copy_onto
decreases-copy_onto l = 3 * size (plain_in [] l.trace.now) + 1

abbrev pub decreases-copy_end : goal.decreases-copy_end
decreases-copy_end l = 3 * end_size (end_in [] l.end)

abbrev pub decreases-copy_children : goal.decreases-copy_children
decreases-copy_children l = 3 * all_size (traces (map (plain_in []) l.children.now)) + 2

-- what is copied and what is left are the whole; what is left has typed terms
abbrev pub invariant-copy_children-loop-child : goal.invariant-copy_children-loop-child
invariant-copy_children-loop-child l =
    (map trace_of l.copy ++ map (plain_in l.terms) (drop l.child-index l.children) ≡ map (plain_in l.terms) l.children)
    × OfTraces IsTyped (traces (map (plain_in l.terms) (drop l.child-index l.children)))
