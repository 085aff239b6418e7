use Rattle.std.proofs.Common.{◌≡◌, drop}
use Rattle.term_tree.specs.Values as spec
use Rattle.term_tree.proofs.values.first_bits.Given as goal

abbrev pub invariant-loop-pair : goal.invariant-loop-pair
invariant-loop-pair l = spec.first_bits (drop l.pair-index l.pairs) l.name l.width ≡ spec.first_bits l.pairs l.name l.width
