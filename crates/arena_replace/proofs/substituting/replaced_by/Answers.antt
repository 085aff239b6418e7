use Rattle.arena_replace.proofs.StartLemmas.{knows_pairs}
use Rattle.arena_replace.proofs.substituting.replaced_by.Goals as goal

pub returns : goal.returns
returns c =
    knows_pairs c.args.terms.now c.args.bits.now c.args.arrays.now c.laws.ensures.equal c.laws.ensures.equal_arrays c.requires.bits c.requires.arrays
    (record { terms = c.in_ok-numbers.numbers; arrays = c.in_ok-array_numbers.array_numbers }) c.in_ok-numbers.ensures c.in_ok-array_numbers.ensures
