-- What is printed of a program that was read is read as that program but for places, and printed again.
use Rattle.std.proofs.Common.{◌≡◌, List, Ok, ap, ◌∙◌}
use Rattle.sail_syntax.specs.Tree.{Text}
use Rattle.sail_syntax.specs.Program.{Definition}
use Rattle.sail_text.specs.Definitions.{printed}
use Rattle.sail_reader.specs.Reading.{read_text}
use Rattle.sail_round_trip.specs.RoundTripLaws.{IsReadAgain}
use Rattle.sail_round_trip.proofs.RoundTripLemmas.{read_again}
use Rattle.sail_reprint.specs.Reprint.{IsReprint, IsFixed, printed_of}
use Rattle.sail_reprint.proofs.PlaceLemmas.{same_text}

printed_again : (ds : List Definition) → IsReadAgain ds → IsFixed (printed ds)
printed_again ds a = ap printed_of a.read ∙ ap Ok (same_text a.again ds a.same)

pub is_reprint : (text again : Text) (ds : List Definition) → read_text text ≡ Ok ds → again ≡ printed ds → IsReprint text again
is_reprint text again ds h is =
    record { program = ds; read = h; is = is; back = read_again text ds h; fixed = λ short. rw is (printed_again ds (read_again text ds h short)) }
