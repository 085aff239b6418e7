-- What a block that ends does where no foreach is on top.
use Rattle.std.proofs.Common.{◌≡◌, ℕ, false, List, [], ◌∷◌, refl}
use Rattle.sail_syntax.specs.Tree.{Step, node, block}
use Rattle.sail_syntax.specs.View.{steps_of}
use Rattle.sail_machine.specs.Frames as m
use Rattle.sail_machine.specs.Frames.{Frames}
use Rattle.sail_machine.specs.Turns.{closed, operand}
use Rattle.sail_frames.specs.Turning.{is_in_foreach}

pub no_foreach_closed : (k : Frames) (ss : List Step) (at : ℕ) → is_in_foreach k ≡ false → closed k ss at ≡ operand k at (node at (block (steps_of ss)))
no_foreach_closed [] ss at h = refl
no_foreach_closed (m.looping x i j p ∷ k) ss at h = absurd cc
no_foreach_closed (g ∷ k) ss at h = refl
