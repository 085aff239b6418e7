use Rattle.term_print.proofs.AsciiLemmas.{printed_utf8}
use Rattle.term_print.proofs.PrintedLemmas.{term_cut, printed_cut}
use Rattle.term_print.proofs.laws.printed_is_cut.Goals as goal

pub returns : goal.returns
returns c = record { cut = printed_cut; anywhere = term_cut; utf8 = printed_utf8 }
