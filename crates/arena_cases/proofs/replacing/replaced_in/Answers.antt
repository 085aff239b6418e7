use Rattle.arena_cases.proofs.WidthLemmas.{pairs_stay, array_pairs_stay}
use Rattle.arena_cases.proofs.replacing.replaced_in.Goals as goal

pub replaced-requires-clause-bits : goal.replaced-requires-clause-bits
replaced-requires-clause-bits c = pairs_stay c.args.terms.now c.intern.new.terms c.in_ok-id.ensures.makes.kept c.args.bits.now c.requires.bits

pub replaced-requires-clause-arrays : goal.replaced-requires-clause-arrays
replaced-requires-clause-arrays c = array_pairs_stay c.args.terms.now c.intern.new.terms c.in_ok-id.ensures.makes.kept c.args.arrays.now c.requires.arrays
