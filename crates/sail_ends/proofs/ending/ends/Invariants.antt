use Rattle.std.proofs.Common.{◌≡◌, length}
use Rattle.sail_syntax.specs.View.{tree}
use Rattle.sail_machine.specs.Turns as spec
use Rattle.sail_frames.specs.View.{frames_of, next_of}
use Rattle.sail_ends.proofs.ending.ends.Given as goal

-- what ended so far ends further out as the whole does
abbrev pub invariant-loop-frame : goal.invariant-loop-frame
invariant-loop-frame l = spec.ends (frames_of l.stack) (tree l.done) (next_of l.next) ≡ spec.ends (frames_of l.fn.stack) (tree l.fn.done) (next_of l.next)

abbrev pub decreases-loop-frame : goal.decreases-loop-frame
decreases-loop-frame l = length l.stack
