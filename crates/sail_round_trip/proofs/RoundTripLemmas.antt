-- What is spelled again is read again.
use Rattle.std.proofs.Common.{◌≡◌, List, Ok}
use Rattle.std.specs.Str.{IsUtf8}
use Rattle.sail_syntax.specs.Tree.{Text}
use Rattle.sail_syntax.specs.Program.{Definition}
use Rattle.sail_grammar.specs.Definitions.{AreFew}
use Rattle.sail_text.specs.Definitions.{printed}
use Rattle.sail_printed.specs.Forms.{IsFormedProgram}
use Rattle.sail_printed.specs.PrintedLaws.{HasShortText, IsReadBack}
use Rattle.sail_printed.proofs.AsciiLemmas.{printed_utf8}
use Rattle.sail_printed.proofs.FormedPrograms.{spelled_formed, spelled_read_back}
use Rattle.sail_printed.proofs.SpelledPrograms.{printed_read_back}
use Rattle.sail_reader.specs.Reading.{read_text}
use Rattle.sail_reader.proofs.ReadingLemmas.{is_read, is_spelled}
use Rattle.sail_round_trip.specs.RoundTripLaws.{IsReadAgain}

again_read : (ds : List Definition) → IsReadBack ds → IsReadAgain ds
again_read ds a = record { again = a.again; read = is_read (printed ds) a.again a.spelled; same = a.same }

pub read_again : (text : Text) (ds : List Definition) → read_text text ≡ Ok ds → HasShortText ds → IsReadAgain ds
read_again text ds h short = again_read ds (spelled_read_back text ds (is_spelled text ds h) short)

pub formed_again : (ds : List Definition) → IsFormedProgram ds → AreFew ds → HasShortText ds → IsReadAgain ds
formed_again ds formed few short = again_read ds (printed_read_back ds formed few short)

pub read_utf8 : (text : Text) (ds : List Definition) → read_text text ≡ Ok ds → IsUtf8 (printed ds)
read_utf8 text ds h = printed_utf8 ds (spelled_formed text ds (is_spelled text ds h))
