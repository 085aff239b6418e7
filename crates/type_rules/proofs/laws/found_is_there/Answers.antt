use Rattle.type_rules.proofs.ThereLemmas.{found_is_there}
use Rattle.type_rules.proofs.laws.found_is_there.Goals as goal

pub returns : goal.returns
returns c = found_is_there
