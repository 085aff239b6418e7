use Rattle.arena_cases.proofs.WidthLemmas.{wide_stays}
use Rattle.arena_cases.proofs.replacing.shared.Goals as goal

pub replaced-requires-clause-term : goal.replaced-requires-clause-term
replaced-requires-clause-term c = wide_stays c.doubled.new.terms c.pair.new.terms c.in_ok-pair.ensures.kept c.in_ok-sum.sum c.in_ok-sum.ensures.term
