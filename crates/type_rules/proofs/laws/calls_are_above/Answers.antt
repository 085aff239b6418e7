use Rattle.type_rules.proofs.AboveLemmas.{calls_above}
use Rattle.type_rules.proofs.laws.calls_are_above.Goals as goal

pub returns : goal.returns
returns c = calls_above
