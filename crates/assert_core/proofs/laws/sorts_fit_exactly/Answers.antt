use Rattle.assert_core.proofs.SortLemmas.{sorts_decide}
use Rattle.assert_core.proofs.laws.sorts_fit_exactly.Goals as goal

pub returns : goal.returns
returns c = sorts_decide
