-- What a word of assignment does in a chain, and where no chain is on top.
use Rattle.std.proofs.Common.{◌≡◌, ℕ, true, false, [], ◌∷◌, refl}
use Rattle.sail_syntax.specs.Tree.{Text}
use Rattle.sail_machine.specs.declared.awaited.Await.TheVariants as a
use Rattle.sail_machine.specs.Frames as m
use Rattle.sail_machine.specs.Frames.{Frames, awaits}
use Rattle.sail_machine.specs.Turns.{opened, unexpected}
use Rattle.sail_machine.specs.Machine.{assigns}
use Rattle.sail_frames.specs.Turning.{is_in_chain}

pub no_chain_assigns : (k : Frames) (x : Text) (p at : ℕ) → is_in_chain k ≡ false → assigns k x p at ≡ opened k (m.assigning x p) (awaits a.Want) p
no_chain_assigns [] x p at h = refl
no_chain_assigns (m.chained op xs q ∷ k) x p at h = absurd cc
no_chain_assigns (g ∷ k) x p at h = refl

pub chain_assigns : (k : Frames) (x : Text) (p at : ℕ) → is_in_chain k ≡ true → assigns k x p at ≡ unexpected at
chain_assigns [] x p at h = absurd cc
chain_assigns (m.chained op xs q ∷ k) x p at h = refl
chain_assigns (g ∷ k) x p at h = absurd cc
