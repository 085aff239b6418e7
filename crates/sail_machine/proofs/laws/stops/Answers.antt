use Rattle.sail_machine.proofs.Stops.{fault_is, no_more}
use Rattle.sail_machine.proofs.laws.stops.Goals as goal

pub returns-clause-fault : goal.returns-clause-fault
returns-clause-fault c = fault_is

pub returns-clause-after : goal.returns-clause-after
returns-clause-after c = no_more
