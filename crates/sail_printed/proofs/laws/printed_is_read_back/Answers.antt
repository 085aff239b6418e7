use Rattle.sail_printed.proofs.AsciiLemmas.{printed_utf8}
use Rattle.sail_printed.proofs.FormedPrograms.{spelled_formed, spelled_read_back}
use Rattle.sail_printed.proofs.SpelledPrograms.{printed_read_back}
use Rattle.sail_printed.proofs.laws.printed_is_read_back.Goals as goal

pub returns : goal.returns
returns c = record { spelled = spelled_read_back; formed = printed_read_back; form = spelled_formed; utf8 = printed_utf8 }
