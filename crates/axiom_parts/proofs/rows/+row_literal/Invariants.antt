use Rattle.std.proofs.Common.{length}
use Rattle.axiom_parts.proofs.rows.+row_literal.Given as goal

abbrev pub decreases-row_literal : goal.decreases-row_literal
decreases-row_literal l = length l.row.now
