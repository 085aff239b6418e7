-- Where the first fault of words stands.
use Rattle.std.specs.Prelude.{◌≡◌, ◌<◌, ◌++◌, ◌⊎◌, ⊤, ℕ, true, List, [], ◌∷◌, Option, Some, None, Ok}
use Rattle.sail_syntax.specs.Program.{Definition}
use Rattle.sail_grammar.specs.Spelling.{Continues, IsProgram}
use Rattle.sail_grammar.specs.Words.{Words}
use Rattle.sail_grammar.specs.declared.mark.Mark.TheVariants as m
use Rattle.sail_grammar.specs.declared.word.Word.{Word}
use Rattle.sail_machine.specs.declared.awaited.Await.TheVariants as a
use Rattle.sail_machine.specs.declared.fault.Fault.{Fault}
use Rattle.sail_machine.specs.declared.fault.Flaw.TheVariants as flaw
use Rattle.sail_machine.specs.Frames.{Frames, Mode, awaits, have, whole, nest}
use Rattle.sail_machine.specs.Run.{passed}
use Rattle.sail_machine.specs.Signs.{is_mark}

-- the place of a name that begins an expression, where what follows it comes next
abbrev pub name_place : Mode → Option ℕ
name_place (awaits (a.Named x p)) = Some p
name_place _ = None

-- the place, if there is one, is this one
abbrev pub IsThat : Option ℕ → ℕ → Type 0
IsThat None at = ⊤
IsThat (Some p) at = p ≡ at

-- an expression that began with a name began at the place
abbrev pub IsHere : Mode → ℕ → Type 0
IsHere mode at = IsThat (name_place mode) at

-- where the last word begins; 0 where there is none
abbrev pub last_place : Words → ℕ
last_place [] = 0
last_place (w ∷ []) = w.at
last_place (w ∷ v ∷ ws) = last_place (v ∷ ws)

-- a nesting too deep by an assignment, which is found at its `=` and stands at the name in front
pub record IsDeepName (before : Words) (word : Word) (f : Fault) : Type 0 where
  pub deep : f.flaw ≡ flaw.TooDeep
  pub equals : is_mark m.Equals word.sign ≡ true
  pub place : f.at ≡ last_place before

-- the words in front are the beginning of a program, as long as a level of nesting is left where they end
pub record IsBeginning (before : Words) : Type 0 where
  pub frames : Frames
  pub mode : Mode
  pub passed : passed before ≡ Ok (frames, mode)
  pub goes_on : nest frames < 128 → Continues before

-- the fault stands at a word: those in front of it are a beginning, and with it they are none
pub record IsFirst (ws : Words) (f : Fault) : Type 0 where
  pub before : Words
  pub word : Word
  pub behind : Words
  pub all : ws ≡ before ++ word ∷ behind
  pub beginning : IsBeginning before
  pub stops : ¬ Continues (before ++ word ∷ [])
  pub place : (f.at ≡ word.at) ⊎ IsDeepName before word f

-- the fault stands at the end: the words are a beginning, and no program
pub record IsUnended (end : ℕ) (ws : Words) (f : Fault) : Type 0 where
  pub beginning : IsBeginning ws
  pub unended : (ds : List Definition) → ¬ IsProgram ws ds
  pub fault : f ≡ record { flaw = flaw.Unexpected; at = end }
