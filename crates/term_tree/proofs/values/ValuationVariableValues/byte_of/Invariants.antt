use Rattle.std.proofs.Common.{◌≡◌, drop}
use Rattle.term_tree.specs.Values as spec
use Rattle.term_tree.proofs.values.ValuationVariableValues.byte_of.Given as goal

abbrev pub invariant-loop-array : goal.invariant-loop-array
invariant-loop-array l =
    spec.first_byte (spec.first_array (drop l.array-index l.self.arrays) l.name) l.index ≡ spec.first_byte (spec.first_array l.self.arrays l.name) l.index
