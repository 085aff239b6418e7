-- An expression ended in one of these frames.
use Rattle.std.proofs.Common.{◌≡◌, ℕ, Bool, List, Result, sym, subst}
use Rattle.sail_syntax.specs.Tree.{Tree, node, flip, update, widen}
use Rattle.sail_syntax.specs.View.{tree}
use Rattle.sail_syntax.specs.declared.tree.Expr.{Expr}
use Rattle.sail_syntax.specs.declared.tree.Index.{Index}
use Rattle.sail_grammar.specs.declared.mark.Mark.TheVariants as mark
use Rattle.sail_machine.specs.Signs.{Next}
use Rattle.sail_machine.specs.Turns.{ends_in}
use Rattle.sail_frames.specs.declared.stop.Stop.{Stop}
use Rattle.sail_frames.specs.declared.frame.Frame.{Frame}
use Rattle.sail_frames.specs.declared.frame.Frame.TheVariants as frame
use Rattle.sail_frames.specs.declared.mode.Mode.{Mode}
use Rattle.sail_frames.specs.Turning.{Turns}
use Rattle.sail_frames.specs.View.{frame_of, frames_of}
use Rattle.sail_singles.specs.Singles.{operand_if}

pub turns_paren : (k : List Frame) (f : Frame) (p : ℕ) (e : Tree) (n : Next) (r : Result Mode Stop) → f ≡ frame.Paren p → Turns (operand_if (frames_of k) n mark.Close p e) r k → Turns (ends_in (frames_of k) (frame_of f) e n) r k
unfolding ends_in
turns_paren k f p e n r is h = subst (λ g. Turns (ends_in (frames_of k) (frame_of g) e n) r k) (sym is) h

pub turns_flipping : (k : List Frame) (f : Frame) (p : ℕ) (e : Tree) (n : Next) (r : Result Mode Stop) → f ≡ frame.Flipping p → Turns (operand_if (frames_of k) n mark.Close p (node p (flip e))) r k → Turns (ends_in (frames_of k) (frame_of f) e n) r k
unfolding ends_in
turns_flipping k f p e n r is h = subst (λ g. Turns (ends_in (frames_of k) (frame_of g) e n) r k) (sym is) h

pub turns_replacing : (k : List Frame) (f : Frame) (of : Expr) (hi lo : Index) (p : ℕ) (e : Tree) (n : Next) (r : Result Mode Stop) → f ≡ frame.Replacing of hi lo p → Turns (operand_if (frames_of k) n mark.CloseSquare p (node p (update (tree of) hi lo e))) r k → Turns (ends_in (frames_of k) (frame_of f) e n) r k
unfolding ends_in
turns_replacing k f of hi lo p e n r is h = subst (λ g. Turns (ends_in (frames_of k) (frame_of g) e n) r k) (sym is) h

pub turns_widened : (k : List Frame) (f : Frame) (signed : Bool) (to p : ℕ) (e : Tree) (n : Next) (r : Result Mode Stop) → f ≡ frame.Widened signed to p → Turns (operand_if (frames_of k) n mark.Close p (node p (widen signed to e))) r k → Turns (ends_in (frames_of k) (frame_of f) e n) r k
unfolding ends_in
turns_widened k f signed to p e n r is h = subst (λ g. Turns (ends_in (frames_of k) (frame_of g) e n) r k) (sym is) h
