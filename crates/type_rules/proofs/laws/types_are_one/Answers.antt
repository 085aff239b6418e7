use Rattle.type_rules.proofs.ExactLemmas.{one_type}
use Rattle.type_rules.proofs.laws.types_are_one.Goals as goal

pub returns : goal.returns
returns c = one_type
