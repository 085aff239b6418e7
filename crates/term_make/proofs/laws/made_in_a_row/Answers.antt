use Rattle.term_make.proofs.HighLemmas.{high_in_a_row, within_in_a_row, outside_is_high}
use Rattle.term_make.proofs.laws.made_in_a_row.Goals as goal

pub returns : goal.returns
returns c = record { high = high_in_a_row; outside = within_in_a_row; any = outside_is_high }
