use Rattle.sail_machine.proofs.GoesOn.{words_go_on}
use Rattle.sail_machine.proofs.laws.goes_on.Goals as goal

pub returns : goal.returns
returns c = record { before = words_go_on }
