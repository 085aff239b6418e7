-- What ends with an expression that stands alone in what is open.
use Rattle.std.specs.Prelude.{ℕ, Bool, if◌then◌else◌, [], ◌∷◌, Ok}
use Rattle.sail_machine.specs.Frames as m
use Rattle.sail_machine.specs.Frames.{Frames, awaits}
use Rattle.sail_machine.specs.Turns.{Turn, opened, operand, unexpected}
use Rattle.sail_machine.specs.Signs.{Next, meets}
use Rattle.sail_machine.specs.declared.awaited.Await.{Await}
use Rattle.sail_machine.specs.declared.awaited.Await.TheVariants as a
use Rattle.sail_grammar.specs.declared.mark.Mark.{Mark}
use Rattle.sail_grammar.specs.declared.mark.Mark.TheVariants as mark
use Rattle.sail_syntax.specs.Tree.{Tree}

-- a frame opens where the test holds, for a word at the place
abbrev pub turns_if : Bool → Frames → m.Frame → Await → ℕ → Turn
turns_if comes k f a at = if comes then Ok (f ∷ k, awaits a) else unexpected at

-- an operand ends where the mark comes next
abbrev pub operand_if : Frames → Next → Mark → ℕ → Tree → Turn
operand_if k n which at x = if meets which n then operand k at x else unexpected n.at

-- the subject of a match ends where a brace comes next
abbrev pub subject_ends : Frames → Tree → ℕ → Next → Turn
subject_ends k e p n = if meets mark.OpenBrace n then opened k (m.arms e [] p) (awaits (a.Part [])) n.at else unexpected n.at
