use Rattle.machine_safe.proofs.Safety.{walked_safe}
use Rattle.machine_safe.proofs.laws.walked_is_safe.Goals as goal

pub returns : goal.returns
returns c = λ defs k p count last room w fits partial walk at_end are. walked_safe defs k p count last room w fits partial walk at_end are
