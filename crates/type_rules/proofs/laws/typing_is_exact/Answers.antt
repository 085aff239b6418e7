use Rattle.type_rules.proofs.ExactLemmas.{exact}
use Rattle.type_rules.proofs.laws.typing_is_exact.Goals as goal

pub returns : goal.returns
returns c = exact
