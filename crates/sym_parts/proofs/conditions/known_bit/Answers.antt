use Rattle.std.proofs.Common.{◌≡◌, ap}
use Rattle.bv_bits.specs.declared.Bits.{Bits}
use Rattle.term_tree.specs.Terms.{Tree, lit}
use Rattle.term_arena.specs.Said.{single}
use Rattle.term_arena.proofs.MakesLemmas.{makes_as}
use Rattle.sym_rules.specs.Trees.{Telling}
use Rattle.sym_parts.proofs.conditions.known_bit.Goals as goal

-- a literal that is named
named : Bits → Telling Tree
named b = single (lit b)

pub returns-clause-makes : goal.returns-clause-makes
unfolding named
returns-clause-makes c = makes_as c.literal_term.ensures.makes (λ last k. ap named c.bit_literal.ensures.value)
