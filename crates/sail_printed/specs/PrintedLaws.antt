-- What is printed of a program spells it, but for its places.
use Rattle.std.specs.Prelude.{◌≡◌, ◌≤◌, List, length}
use Rattle.std.specs.Str.{IsUtf8}
use Rattle.sail_syntax.specs.Tree.{Text}
use Rattle.sail_syntax.specs.Program.{Definition}
use Rattle.sail_grammar.specs.Definitions.{max_nesting, AreFew}
use Rattle.sail_grammar.specs.Spelling.{most_bytes, IsSpelling}
use Rattle.sail_text.specs.Definitions.{printed}
use Rattle.sail_printed.specs.Places.{unplaced_program}
use Rattle.sail_printed.specs.Forms.{IsFormedProgram}
use Rattle.sail_printed.specs.Levels.{program_levels}

-- the text of a program spells a program that differs from it in places alone
pub record IsReadBack (ds : List Definition) : Type 0 where
  pub again : List Definition
  pub spelled : IsSpelling (printed ds) again
  pub same : unplaced_program again ≡ unplaced_program ds

-- the text of a program is within the limits of length and of nesting
pub record HasShortText (ds : List Definition) : Type 0 where
  pub bytes : length (printed ds) ≤ most_bytes
  pub levels : program_levels ds ≤ max_nesting

-- ---- laws

-- what a text spells has the form that the grammar has a spelling for
abbrev pub SpelledHasForm : Type 0
SpelledHasForm = (text : Text) (ds : List Definition) → IsSpelling text ds → IsFormedProgram ds

-- a program of that form is read back from its text, where that is within the limits
abbrev pub PrintedIsReadBack : Type 0
PrintedIsReadBack = (ds : List Definition) → IsFormedProgram ds → AreFew ds → HasShortText ds → IsReadBack ds

-- so is every program that some text spells
abbrev pub SpelledIsReadBack : Type 0
SpelledIsReadBack = (text : Text) (ds : List Definition) → IsSpelling text ds → HasShortText ds → IsReadBack ds

-- the text of a program of that form is UTF-8, which is printed byte for byte
abbrev pub FormedIsUtf8 : Type 0
FormedIsUtf8 = (ds : List Definition) → IsFormedProgram ds → IsUtf8 (printed ds)
