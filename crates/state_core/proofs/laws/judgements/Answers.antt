use Rattle.state_core.proofs.Judging.{judged_behind}
use Rattle.state_core.proofs.laws.judgements.Goals as goal

pub returns : goal.returns
returns c = λ next ranges i states first later. judged_behind next ranges i states first later
