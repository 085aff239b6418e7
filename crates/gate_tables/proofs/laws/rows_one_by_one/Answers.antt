use Rattle.gate_tables.proofs.RowLemmas.{each_row_holds}
use Rattle.gate_tables.proofs.laws.rows_one_by_one.Goals as goal

pub returns : goal.returns
returns c = each_row_holds
