-- What the words behind `trace` say.
use Rattle.std.specs.Prelude.{List, [], ◌∷◌, map, Option, Some, None, option_map, option_and_then}
use Rattle.lex_core.specs.Classes.{Text}
use Rattle.state_core.specs.declared.word.Word.{Word}
use Rattle.trace_words.specs.Given.{GivenSaid, given_of, given_said}
use Rattle.trace_words.specs.Opcode.{opcode_of}
use Rattle.trace_words.specs.declared.traces.TraceGiven.{TraceGiven}

-- the name of the Sail text's file, the instruction word, and what is assumed of registers
pub record TraceSaid : Type 0 where
  pub sail : Text
  pub opcode : Word
  pub given : List GivenSaid

-- the same, as the code has it
abbrev pub trace_said : TraceGiven → TraceSaid
trace_said t = record { sail = t.sail.now; opcode = t.opcode; given = map given_said t.given.items }

-- what words assume of registers, if each of them assumes something of one
abbrev pub givens_of : List Text → Option (List GivenSaid)
givens_of [] = Some []
givens_of (z ∷ zs) = option_and_then (λ g. option_map (λ gs. g ∷ gs) (givens_of zs)) (given_of z)

-- what the words behind `trace` say, where they are spelled so
abbrev pub trace_of : List Text → Option TraceSaid
trace_of [] = None
trace_of (sail ∷ []) = None
trace_of (sail ∷ opcode ∷ given) =
    option_and_then (λ w. option_map (λ gs. record { sail = sail; opcode = w; given = gs }) (givens_of given)) (opcode_of opcode)
