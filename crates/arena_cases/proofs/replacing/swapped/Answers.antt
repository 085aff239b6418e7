use Rattle.arena_cases.proofs.WidthLemmas.{pair_stays, two_pairs}
use Rattle.arena_cases.proofs.replacing.swapped.Goals as goal

pub replaced_in-requires-clause-bits : goal.replaced_in-requires-clause-bits
replaced_in-requires-clause-bits c =
    let n = c.pair-2.new.terms in
    two_pairs n c.in_ok-first.first c.in_ok-second.second (pair_stays c.pair.new.terms n c.in_ok-second.ensures.kept c.in_ok-first.first c.in_ok-first.ensures.pair) c.in_ok-second.ensures.pair
