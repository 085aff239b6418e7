use Rattle.std.proofs.Common.{◌≡◌, map, take}
use Rattle.term_tree.specs.Terms.{width_of}
use Rattle.term_tree.specs.View.{tree}
use Rattle.term_read.proofs.term_reading.widths.Given as goal

-- the widths so far
abbrev pub invariant-loop-term : goal.invariant-loop-term
invariant-loop-term l = l.widths.items ≡ map width_of (map tree (take l.term-index l.terms))
