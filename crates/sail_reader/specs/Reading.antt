-- Reading a text: its length, its tokens, its words.
use Rattle.std.specs.Prelude.{ℕ, Bool, true, false, if◌then◌else◌, nat_le, List, length, Result, Ok, Err}
use Rattle.lex_core.specs.declared.token.Token.{Token}
use Rattle.lex_core.specs.declared.token.LexFault.{LexFault}
use Rattle.lex_core.specs.Lexing.{cut}
use Rattle.sail_syntax.specs.Tree.{Text}
use Rattle.sail_syntax.specs.Program.{Definition}
use Rattle.sail_grammar.specs.Words.{words_of}
use Rattle.sail_grammar.specs.Spelling.{most_bytes}
use Rattle.sail_machine.specs.declared.fault.Flaw.{Flaw}
use Rattle.sail_machine.specs.declared.fault.Flaw.TheVariants as flaw
use Rattle.sail_machine.specs.Run.{Outcome, read}
use Rattle.sail_reader.specs.declared.fault.SailFault.{SailFault}
use Rattle.sail_reader.specs.declared.fault.SailFault.TheVariants as fault
use Rattle.sail_frames.specs.declared.stop.Stop.{Stop}
use Rattle.sail_frames.specs.declared.stop.Stop.TheVariants as stop

-- a fault of the machine, as the text's
abbrev pub told_by : Flaw → ℕ → SailFault
told_by flaw.Unexpected at = fault.Unexpected at
told_by flaw.Mixed at = fault.Mixed at
told_by flaw.TooDeep at = fault.TooDeep at
told_by flaw.TooMany at = fault.TooMany at

abbrev pub told : Outcome → Result (List Definition) SailFault
told (Ok ds) = Ok ds
told (Err f) = Err (told_by f.flaw f.at)

-- a stop of the machine, as the text's fault
abbrev pub told_stop : Stop → SailFault
told_stop (stop.Fault f) = told_by f.flaw f.at
told_stop stop.NoMemory = fault.NoMemory

-- the machine's answer for the words of the tokens
abbrev pub read_tokens : Text → Result (List Token) LexFault → Result (List Definition) SailFault
read_tokens text (Ok ts) = told (read (length text) (words_of text ts))
read_tokens text (Err f) = Err (fault.Lex f)

-- the definitions of the text's program, or its first fault: its length, then its tokens, then its words
abbrev pub read_text : Text → Result (List Definition) SailFault
read_text text = if nat_le (length text) most_bytes then read_tokens text (cut text) else Err fault.TooLong

-- whether a fault tells want of memory
abbrev pub is_want : SailFault → Bool
is_want (fault.Lex f) = false
is_want (fault.Unexpected at) = false
is_want (fault.Mixed at) = false
is_want (fault.TooDeep at) = false
is_want (fault.TooMany at) = false
is_want fault.TooLong = false
is_want fault.NoMemory = true

-- whether the machine stops for want of memory
abbrev pub is_stop : Stop → Bool
is_stop (stop.Fault f) = false
is_stop stop.NoMemory = true

-- the outcome of the machine as a stop
abbrev pub stopped : Outcome → Result (List Definition) Stop
stopped (Ok ds) = Ok ds
stopped (Err f) = Err (stop.Fault f)
