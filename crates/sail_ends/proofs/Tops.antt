-- What an operator does where no chain is on top.
use Rattle.std.proofs.Common.{◌≡◌, ℕ, false, [], ◌∷◌, Ok, refl}
use Rattle.sail_syntax.specs.Tree.{Tree}
use Rattle.sail_syntax.specs.declared.tree.Infix.{Infix}
use Rattle.sail_machine.specs.declared.awaited.Await.TheVariants as a
use Rattle.sail_machine.specs.Frames as m
use Rattle.sail_machine.specs.Frames.{Frames, awaits}
use Rattle.sail_machine.specs.Turns.{infix_after}
use Rattle.sail_frames.specs.Turning.{is_in_chain}

pub no_chain_goes : (k : Frames) (x : Tree) (p : ℕ) (op : Infix) (at : ℕ) → is_in_chain k ≡ false → infix_after k x p op at ≡ Ok (m.chained op (x ∷ []) p ∷ k, awaits a.Operand)
no_chain_goes [] x p op at h = refl
no_chain_goes (m.chained op' xs q ∷ k) x p op at h = absurd cc
no_chain_goes (g ∷ k) x p op at h = refl
