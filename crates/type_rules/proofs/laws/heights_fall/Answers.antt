use Rattle.type_rules.proofs.AboveLemmas.{heights_fall}
use Rattle.type_rules.proofs.laws.heights_fall.Goals as goal

pub returns : goal.returns
returns c = heights_fall
