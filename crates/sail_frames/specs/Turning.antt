-- What the code answers to a word, against what the machine does.
use Rattle.std.specs.Prelude.{◌≡◌, ◌≤◌, ◌+◌, ℕ, Bool, true, false, List, ◌∷◌, ⊤, Result, Ok, Err}
use Rattle.sail_machine.specs.Frames as m
use Rattle.sail_machine.specs.Frames.{Frames, nest, weight}
use Rattle.sail_machine.specs.Turns.{Turn}
use Rattle.sail_grammar.specs.Definitions.{max_nesting}
use Rattle.sail_frames.specs.declared.stop.Stop.{Stop}
use Rattle.sail_frames.specs.declared.stop.Stop.TheVariants as stop
use Rattle.sail_frames.specs.declared.frame.Frame.{Frame}
use Rattle.sail_frames.specs.declared.mode.Mode.{Mode}
use Rattle.sail_frames.specs.View.{frame_of, frames_of, mode_of}

-- the answer, and what is open then, are those of the turn, unless memory ran out
abbrev pub Turns : Turn → Result Mode Stop → List Frame → Type 0
Turns turn (Ok m) k = turn ≡ Ok (frames_of k, mode_of m)
Turns turn (Err (stop.Fault f)) k = turn ≡ Err f
Turns turn (Err stop.NoMemory) k = ⊤

-- the depth is the nesting of what is open, and within the limit
pub record IsShallow (depth : ℕ) (k : List Frame) : Type 0 where
  pub is : depth ≡ nest (frames_of k)
  pub small : depth ≤ max_nesting

-- there is room for the frame
pub record HasRoom (k : List Frame) (f : Frame) : Type 0 where
  pub room : nest (frames_of k) + weight (frame_of f) ≤ max_nesting

-- there is room for so many levels
pub record HasSpace (k : List Frame) (levels : ℕ) : Type 0 where
  pub room : nest (frames_of k) + levels ≤ max_nesting

-- whether an operand that ends now is one of a chain
abbrev pub is_in_chain : Frames → Bool
is_in_chain (m.chained op xs p ∷ k) = true
is_in_chain k = false

-- whether a block that ends now is that of a foreach
abbrev pub is_in_foreach : Frames → Bool
is_in_foreach (m.looping x i j p ∷ k) = true
is_in_foreach k = false
