-- The reader's frames and modes as those of the machine.
use Rattle.std.specs.Prelude.{List, map}
use Rattle.std.specs.Option.{option_copied}
use Rattle.sail_syntax.specs.View.{tree, choice_of, step_of, definition_of}
use Rattle.sail_machine.specs.Frames as m
use Rattle.sail_machine.specs.Frames.{Frames}
use Rattle.sail_machine.specs.Signs as signs
use Rattle.sail_frames.specs.declared.frame.Frame.{Frame}
use Rattle.sail_frames.specs.declared.frame.Frame.TheVariants as f
use Rattle.sail_frames.specs.declared.mode.Mode.{Mode}
use Rattle.sail_frames.specs.declared.mode.Mode.TheVariants as mode
use Rattle.sail_frames.specs.declared.next.Next.{Next}

-- a frame
abbrev pub frame_of : Frame → m.Frame
frame_of (f.Program ds) = m.program (map definition_of ds)
frame_of (f.Body head t) = m.body head t
frame_of (f.Paren p) = m.paren p
frame_of (f.Args x xs p) = m.args x (map tree xs) p
frame_of (f.Testing p) = m.testing p
frame_of (f.Choosing t p) = m.choosing (tree t) p
frame_of (f.Otherwise t y p) = m.otherwise (tree t) (tree y) p
frame_of (f.Subject p) = m.subject p
frame_of (f.Arms x cs p) = m.arms (tree x) (map choice_of cs) p
frame_of (f.Armed x cs pattern p) = m.armed (tree x) (map choice_of cs) pattern p
frame_of (f.Chained op xs p) = m.chained op (map tree xs) p
frame_of (f.Assigning x p) = m.assigning x p
frame_of (f.Flipping p) = m.flipping p
frame_of (f.Slicing x c p) = m.slicing (tree x) c p
frame_of (f.Updating p) = m.updating p
frame_of (f.Indexing x p) = m.indexing (tree x) p
frame_of (f.Replacing x hi lo p) = m.replacing (tree x) hi lo p
frame_of (f.Widening signed p) = m.widening signed p
frame_of (f.Widened signed w p) = m.widened signed w p
frame_of (f.Asserting p) = m.asserting p
frame_of (f.Asserted t p) = m.asserted (tree t) p
frame_of (f.Looping x i j p) = m.looping x i j p
frame_of (f.Statements ss p) = m.statements (map step_of ss) p
frame_of (f.Binding ss b x t p) = m.binding (map step_of ss) b x t p

-- what is open
abbrev pub frames_of : List Frame → Frames
frames_of k = map frame_of k

-- what comes next
abbrev pub mode_of : Mode → m.Mode
mode_of (mode.Awaits a) = m.awaits a
mode_of (mode.Have x c p) = m.have (tree x) c p
mode_of (mode.Whole x) = m.whole (tree x)

-- a word, or the end, behind an expression
abbrev pub next_of : Next → signs.Next
next_of n = record { sign = option_copied n.sign; at = n.at }
