-- Reading words from the first to the last.
use Rattle.std.specs.Prelude.{ℕ, List, [], ◌∷◌, Option, Some, None, Result, Ok, Err}
use Rattle.sail_syntax.specs.Tree.{Text, Tree, node, name}
use Rattle.sail_syntax.specs.Program.{Definition}
use Rattle.sail_grammar.specs.declared.word.Word.{Word}
use Rattle.sail_grammar.specs.Words.{Words}
use Rattle.sail_machine.specs.declared.fault.Flaw.TheVariants as flaw
use Rattle.sail_machine.specs.declared.fault.Fault.{Fault}
use Rattle.sail_machine.specs.declared.awaited.Await.{Await}
use Rattle.sail_machine.specs.declared.awaited.Await.TheVariants as a
use Rattle.sail_machine.specs.Frames.{Frame, Frames, Mode, awaits, have, whole, program}
use Rattle.sail_machine.specs.Signs.{at_end}
use Rattle.sail_machine.specs.Turns.{Turn, unexpected, goes, ends}
use Rattle.sail_machine.specs.Machine.{step}

-- the end of the text, where no expression has just ended
abbrev pub last_await : Frames → Await → ℕ → Turn
last_await k a.Begin at = goes k a.Definition
last_await k a.Definition at = goes k a.Definition
last_await k (a.Named x p) at = ends k (node p (name x)) (at_end at)
last_await k a at = unexpected at

-- the end of the text
abbrev pub last : Frames → Mode → ℕ → Turn
last k (awaits a) at = last_await k a at
last k (have x slices p) at = ends k x (at_end at)
last k (whole x) at = ends k x (at_end at)

-- the definitions, or the first fault
abbrev pub Outcome : Type 0
Outcome = Result (List Definition) Fault

-- the definitions of the text, where nothing else is open
abbrev pub given : Frames → ℕ → Outcome
given (program ds ∷ []) at = Ok ds
given k at = Err (record { flaw = flaw.Unexpected; at = at })

abbrev pub ended : Turn → ℕ → Outcome
ended (Ok s) at = given s.0 at
ended (Err f) at = Err f

abbrev pub and_then : Turn → (Frames → Mode → Outcome) → Outcome
and_then (Ok s) go = go s.0 s.1
and_then (Err f) go = Err f

-- reading the words that are left, in a text that ends at the place
unfoldable pub run : ℕ → Frames → Mode → Words → Outcome
run end k m [] = ended (last k m end) end
run end k m (w ∷ ws) = and_then (step k m w) (λ k' m'. run end k' m' ws)

-- reading the words of a text that ends at the place
abbrev pub read : ℕ → Words → Outcome
read end ws = run end (program [] ∷ []) (awaits a.Begin) ws

-- ---- some words, without the end of the text

abbrev pub passes : Turn → (Frames → Mode → Turn) → Turn
passes (Ok s) go = go s.0 s.1
passes (Err f) go = Err f

-- what is open and what comes next behind the words, or the fault at one of them
unfoldable pub pass : Frames → Mode → Words → Turn
pass k m [] = Ok (k, m)
pass k m (w ∷ ws) = passes (step k m w) (λ k' m'. pass k' m' ws)

-- the same from the start of a text on
abbrev pub passed : Words → Turn
passed ws = pass (program [] ∷ []) (awaits a.Begin) ws
