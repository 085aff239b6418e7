use Rattle.std.proofs.Common.{◌<◌, ◌^◌, ◌≤◌, arith, length}
use Rattle.axiom_parts.proofs.RowLemmas.{row_small}
use Rattle.axiom_parts.proofs.rows.gate_length.Goals as goal

pub overflow_cast-result : goal.overflow_cast-result
overflow_cast-result g c = omega (arith, c.row_length.ensures, row_small c.in-Some.row.now c.args.places.now, c.requires)
