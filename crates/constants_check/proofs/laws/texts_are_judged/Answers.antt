use Rattle.constants_check.proofs.Statuses.{told_of_each}
use Rattle.constants_check.proofs.laws.texts_are_judged.Goals as goal

pub returns : goal.returns
returns c = told_of_each
