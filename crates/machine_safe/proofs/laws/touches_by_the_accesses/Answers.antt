use Rattle.machine_safe.proofs.Touches.{touch_tells}
use Rattle.machine_safe.proofs.laws.touches_by_the_accesses.Goals as goal

pub returns : goal.returns
returns c = λ defs w x word is. touch_tells defs w x word is
