use Rattle.sail_machine.proofs.Programs.{program_is_read, one_program}
use Rattle.sail_machine.proofs.laws.spelled_is_read.Goals as goal

pub returns-clause-only : goal.returns-clause-only
returns-clause-only c = program_is_read

pub returns-clause-one : goal.returns-clause-one
returns-clause-one c = one_program
