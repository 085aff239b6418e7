use Rattle.sail_faults.proofs.First.{first_fault_is}
use Rattle.sail_faults.proofs.laws.first_fault.Goals as goal

pub returns : goal.returns
returns c = record { first = first_fault_is c.stops.ensures.after c.goes_on.ensures.before }
