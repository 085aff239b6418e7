use Rattle.arena_cases.proofs.WidthLemmas.{pair_stays, one_pair}
use Rattle.arena_cases.proofs.replacing.splice_replaced.Goals as goal

pub replaced_in_array-requires-clause-bits : goal.replaced_in_array-requires-clause-bits
replaced_in_array-requires-clause-bits c =
    let n = c.array_pair.new.terms in
    one_pair n c.in_ok-index.index (pair_stays c.pair.new.terms n c.in_ok-array.ensures.kept c.in_ok-index.index c.in_ok-index.ensures.pair)
