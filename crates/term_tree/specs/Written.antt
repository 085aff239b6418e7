-- The code's valuations as pairs.
use Rattle.std.specs.Prelude.{[], ◌∷◌}
use Rattle.bv_bits.specs.declared.Bits.{Bits}
use Rattle.term_tree.specs.declared.term.Valuation.{Valuation}
use Rattle.term_tree.specs.Terms.{Text}
use Rattle.term_tree.specs.Values.{Pairs}

-- the pairs of a valuation
abbrev pub pairs_of : Valuation → Pairs
pairs_of v = record { bits = v.bits; arrays = v.arrays }

-- one pair of a name and bits, and no array
abbrev pub one_pair : Text → Bits → Pairs
one_pair x b = record { bits = (x, b) ∷ []; arrays = [] }
