use Rattle.term_arena.proofs.StayLemmas.{index_stays}
use Rattle.arena_cases.proofs.arrays.selected.Goals as goal

pub select-requires-clause-index : goal.select-requires-clause-index
select-requires-clause-index c = index_stays c.index.new.terms c.intern_array.new.terms c.in_ok-of.ensures.makes.kept c.in_ok-at.at c.in_ok-at.ensures.index
