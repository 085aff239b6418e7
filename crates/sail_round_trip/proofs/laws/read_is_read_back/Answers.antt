use Rattle.sail_round_trip.proofs.RoundTripLemmas.{read_again, formed_again, read_utf8}
use Rattle.sail_round_trip.proofs.laws.read_is_read_back.Goals as goal

pub returns : goal.returns
returns c = record { spelled = read_again; formed = formed_again; printed = read_utf8 }
