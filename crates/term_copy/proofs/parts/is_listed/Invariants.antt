use Rattle.std.proofs.Common.{◌≡◌, map, drop}
use Rattle.term_copy.specs.Parts.{is_among}
use Rattle.term_tree.specs.View.{tree}
use Rattle.term_copy.proofs.parts.is_listed.Given as goal

abbrev pub invariant-loop-other : goal.invariant-loop-other
invariant-loop-other l = is_among (tree l.term) (map tree (drop l.other-index l.done)) ≡ is_among (tree l.term) (map tree l.done)
