use Rattle.std.proofs.Common.{subst}
use Rattle.sail_grammar.specs.declared.mark.Mark.TheVariants as mark
use Rattle.sail_frames.specs.Turning.{Turns}
use Rattle.sail_frames.specs.View.{frames_of, next_of}
use Rattle.sail_singles.specs.Singles.{operand_if}
use Rattle.sail_singles.proofs.singles.flip_ends.Goals as goal

pub returns : goal.returns
returns c k = subst (λ e. Turns (operand_if (frames_of k) (next_of c.args.next) mark.Close c.args.at e) c.operand_where.result k) c.in_ok-whole.ensures (c.operand_where.ensures k)
