use Rattle.type_rules.proofs.ProgramLemmas.{programs_exact}
use Rattle.type_rules.proofs.laws.programs_are_exact.Goals as goal

pub returns : goal.returns
returns c = programs_exact
