use Rattle.std.proofs.Common.{◌≡◌, drop}
use Rattle.term_tree.specs.Values as spec
use Rattle.term_tree.proofs.values.first_byte.Given as goal

abbrev pub invariant-loop-pair : goal.invariant-loop-pair
invariant-loop-pair l = spec.first_byte (drop l.pair-index l.pairs) l.index ≡ spec.first_byte l.pairs l.index
