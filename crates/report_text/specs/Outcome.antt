-- How a call ends: a status, and the text that is to be written.
use Rattle.std.specs.Prelude.{ℕ}
use Rattle.lex_core.specs.Classes.{Text}
use Rattle.report_text.specs.declared.outcome.Outcome.{Outcome}
use Rattle.report_text.specs.declared.outcome.Status.{Status}
use Rattle.report_text.specs.declared.outcome.Status.TheVariants as kind

-- the number with which the program ends
abbrev pub status_number : Status → ℕ
status_number kind.Accepted = 0
status_number kind.Refused = 1
status_number kind.Words = 2
status_number kind.Input = 3
status_number kind.Missing = 4
status_number kind.ReadFault = 5
status_number kind.Limit = 7

-- what is said: a status and the text that is to be written
pub record Said : Type 0 where
  pub status : Status
  pub text : Text

-- what the code says
abbrev pub said_of : Outcome → Said
said_of outcome = record { status = outcome.status; text = outcome.text.items }

-- every specification is accepted
abbrev pub accept : Text → Said
accept text = record { status = kind.Accepted; text = text }

-- a rule of checking fails
abbrev pub refuse : Text → Said
refuse text = record { status = kind.Refused; text = text }

-- an input can't be read
abbrev pub bad_input : Text → Said
bad_input text = record { status = kind.Input; text = text }

-- a counted quantity reached its limit
abbrev pub beyond : Text → Said
beyond text = record { status = kind.Limit; text = text }
