use Rattle.arena_cases.proofs.WidthLemmas.{pairs_replace, pairs_fit}
use Rattle.arena_cases.proofs.replacing.replaced.Goals as goal

pub substitute-requires-clause-bits : goal.substitute-requires-clause-bits
substitute-requires-clause-bits c = pairs_replace c.args.terms.now c.args.bits.now c.requires.bits

pub substitute-requires-clause-fits : goal.substitute-requires-clause-fits
substitute-requires-clause-fits c = pairs_fit c.args.terms.now c.args.bits.now c.requires.bits c.args.arrays.now _ c.requires.term
