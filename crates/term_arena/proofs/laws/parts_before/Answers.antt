use Rattle.term_arena.proofs.EqualLemmas.{parts_below}
use Rattle.term_arena.proofs.laws.parts_before.Goals as goal

pub returns : goal.returns
returns c nodes ok i n e = parts_below nodes ok i n e
