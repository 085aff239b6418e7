-- A text that is read and printed again.
use Rattle.std.specs.Prelude.{◌≡◌, List, Result, Ok, Err}
use Rattle.sail_syntax.specs.Tree.{Text}
use Rattle.sail_syntax.specs.Program.{Definition}
use Rattle.sail_text.specs.Definitions.{printed}
use Rattle.sail_printed.specs.PrintedLaws.{HasShortText}
use Rattle.sail_reader.specs.declared.fault.SailFault.{SailFault}
use Rattle.sail_reader.specs.Reading.{read_text}
use Rattle.sail_round_trip.specs.RoundTripLaws.{IsReadAgain}

-- what is printed of what is read, or the fault
abbrev pub printed_of : Result (List Definition) SailFault → Result Text SailFault
printed_of (Ok ds) = Ok (printed ds)
printed_of (Err f) = Err f

-- what is printed of what is read of a text, or the first fault of reading it
abbrev pub reprinted : Text → Result Text SailFault
reprinted text = printed_of (read_text text)

-- a text that is printed again as it is
abbrev pub IsFixed : Text → Type 0
IsFixed text = reprinted text ≡ Ok text

-- the second text is what is printed of the program that is read of the first one
pub record IsReprint (text again : Text) : Type 0 where
  pub program : List Definition
  pub read : read_text text ≡ Ok program
  pub is : again ≡ printed program
  -- within the limits it is read as that program but for places
  pub back : HasShortText program → IsReadAgain program
  -- and printed again as it is
  pub fixed : HasShortText program → IsFixed again
