-- What is printed of a program is read back as that program, but for its places.
use Rattle.std.specs.Prelude.{◌≡◌, List, Ok}
use Rattle.std.specs.Str.{IsUtf8}
use Rattle.sail_syntax.specs.Tree.{Text}
use Rattle.sail_syntax.specs.Program.{Definition}
use Rattle.sail_grammar.specs.Definitions.{AreFew}
use Rattle.sail_text.specs.Definitions.{printed}
use Rattle.sail_printed.specs.Places.{unplaced_program}
use Rattle.sail_printed.specs.Forms.{IsFormedProgram}
use Rattle.sail_printed.specs.PrintedLaws.{HasShortText}
use Rattle.sail_reader.specs.Reading.{read_text}

-- of the text of a program one is read that differs from it in places alone
pub record IsReadAgain (ds : List Definition) : Type 0 where
  pub again : List Definition
  pub read : read_text (printed ds) ≡ Ok again
  pub same : unplaced_program again ≡ unplaced_program ds

-- ---- laws

-- what is read of a text is read back from what is printed of it, where that is within the limits
abbrev pub ReadIsReadBack : Type 0
ReadIsReadBack = (text : Text) (ds : List Definition) → read_text text ≡ Ok ds → HasShortText ds → IsReadAgain ds

-- so is every program of the form that the grammar has a spelling for, with so few definitions of a kind
abbrev pub FormedIsReadBack : Type 0
FormedIsReadBack = (ds : List Definition) → IsFormedProgram ds → AreFew ds → HasShortText ds → IsReadAgain ds

-- the text of what is read is UTF-8, which is printed byte for byte
abbrev pub ReadIsPrinted : Type 0
ReadIsPrinted = (text : Text) (ds : List Definition) → read_text text ≡ Ok ds → IsUtf8 (printed ds)
