use Rattle.arena_cases.proofs.WidthLemmas.{pair_of}
use Rattle.arena_cases.proofs.replacing.pair.Goals as goal

pub returns-clause-pair : goal.returns-clause-pair
returns-clause-pair c = pair_of c.interned.new.terms c.interned-2.new.terms c.in_ok-by.ensures.kept c.in_ok-of.of c.in_ok-by.by _ _ c.in_ok-of.ensures.term c.in_ok-by.ensures.term
