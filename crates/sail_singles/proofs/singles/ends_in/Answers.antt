use Rattle.std.proofs.Common.{subst}
use Rattle.sail_syntax.specs.View.{tree}
use Rattle.sail_syntax.specs.Tree.{node, update}
use Rattle.sail_grammar.specs.declared.mark.Mark.TheVariants as mark
use Rattle.sail_frames.specs.Turning.{Turns}
use Rattle.sail_singles.specs.Singles.{operand_if}
use Rattle.sail_frames.specs.View.{frames_of, next_of}
use Rattle.sail_singles.proofs.SingleLemmas.{turns_paren, turns_flipping, turns_replacing, turns_widened}
use Rattle.sail_singles.proofs.singles.ends_in.Goals as goal

pub returns-in-Paren : goal.returns-in-Paren
returns-in-Paren c = turns_paren c.args.stack.now c.args.frame.now c.in-Paren.at (tree c.args.done) (next_of c.args.next) c.operand_where.result c.in-Paren.is (c.operand_where.ensures c.args.stack.now)

pub returns-in-Flipping : goal.returns-in-Flipping
returns-in-Flipping c = turns_flipping c.args.stack.now c.args.frame.now c.in-Flipping.at (tree c.args.done) (next_of c.args.next) c.flip_ends.result c.in-Flipping.is (c.flip_ends.ensures c.args.stack.now)

pub returns-in-Replacing : goal.returns-in-Replacing
returns-in-Replacing c =
    turns_replacing c.args.stack.now c.args.frame.now c.in-Replacing.of c.in-Replacing.hi c.in-Replacing.lo c.in-Replacing.at (tree c.args.done) (next_of c.args.next) c.update_ends.result c.in-Replacing.is
    (subst (λ x. Turns (operand_if (frames_of c.args.stack.now) (next_of c.args.next) mark.CloseSquare c.in-Replacing.at (node c.in-Replacing.at (update (tree x) c.in-Replacing.hi c.in-Replacing.lo (tree c.args.done)))) c.update_ends.result c.args.stack.now) c.replace-of.ensures.value
    (subst (λ hi. Turns (operand_if (frames_of c.args.stack.now) (next_of c.args.next) mark.CloseSquare c.in-Replacing.at (node c.in-Replacing.at (update (tree c.replace-of.result) hi c.in-Replacing.lo (tree c.args.done)))) c.update_ends.result c.args.stack.now) c.replace-hi.ensures.value
    (subst (λ lo. Turns (operand_if (frames_of c.args.stack.now) (next_of c.args.next) mark.CloseSquare c.in-Replacing.at (node c.in-Replacing.at (update (tree c.replace-of.result) c.replace-hi.result lo (tree c.args.done)))) c.update_ends.result c.args.stack.now) c.replace-lo.ensures.value (c.update_ends.ensures c.args.stack.now))))

pub returns-in-Widened : goal.returns-in-Widened
returns-in-Widened c = turns_widened c.args.stack.now c.args.frame.now c.in-Widened.signed c.in-Widened.to c.in-Widened.at (tree c.args.done) (next_of c.args.next) c.widen_ends.result c.in-Widened.is (c.widen_ends.ensures c.args.stack.now)
