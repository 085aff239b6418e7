use Rattle.machine_safe.proofs.Safety.{walk_fails}
use Rattle.machine_safe.proofs.laws.fails_by_the_text.Goals as goal

pub returns : goal.returns
returns c = λ defs k count last room at w x e has place is. walk_fails defs k count last room at w x e has place is
