use Rattle.sail_machine.proofs.FoundTexts.{program_is_spelled}
use Rattle.sail_machine.proofs.laws.read_is_spelled.Goals as goal

pub returns : goal.returns
returns c = record { spelled = program_is_spelled }
