use Rattle.term_print.proofs.AsciiLemmas.{printed_array_utf8}
use Rattle.term_print.proofs.PrintedLemmas.{array_cut, printed_array_cut}
use Rattle.term_print.proofs.laws.printed_array_is_cut.Goals as goal

pub returns : goal.returns
returns c = record { cut = printed_array_cut; anywhere = array_cut; utf8 = printed_array_utf8 }
