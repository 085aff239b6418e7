use Rattle.term_arena.proofs.LimitLemmas.{exceeds}
use Rattle.term_arena.proofs.laws.limits.Goals as goal

pub returns : goal.returns
returns c = exceeds
