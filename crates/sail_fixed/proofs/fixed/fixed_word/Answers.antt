use Rattle.std.proofs.Common.{if◌then◌else◌, subst, sym, ◌∙◌}
use Rattle.sail_machine.specs.Headers as spec
use Rattle.sail_machine.specs.Turns.{unexpected}
use Rattle.sail_frames.specs.Turning.{Turns}
use Rattle.sail_frames.specs.View.{frames_of}
use Rattle.sail_fixed.proofs.fixed.fixed_word.Goals as goal

pub returns-else-comes : goal.returns-else-comes
returns-else-comes c = subst (λ b. Turns (if b then spec.behind (frames_of c.args.stack.now) c.args.fixed c.args.word.at else unexpected c.args.word.at) c.unexpected.result c.args.stack.now) (sym c.if-comes.false ∙ c.comes.ensures) (c.unexpected.ensures c.args.stack.now)
