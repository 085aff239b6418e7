use Rattle.type_rules.proofs.FirstLemmas.{first_of}
use Rattle.type_rules.proofs.laws.first_is_least.Goals as goal

pub returns : goal.returns
returns c = first_of
