use Rattle.std.proofs.Common.{◌<◌, arith}
use Rattle.axiom_parts.proofs.RowLemmas.{any_at, any_past}
use Rattle.axiom_parts.proofs.clauses.any_literal.Goals as goal

pub returns-then-index-width : goal.returns-then-index-width
returns-then-index-width c = any_at c.args.o c.args.term c.args.width c.args.index c.bit_of.result c.if-index-eq0.false c.if-index-width.true c.bit_of.ensures

pub returns-else-index-width : goal.returns-else-index-width
returns-else-index-width c = any_past c.args.o c.args.term c.args.width c.args.index c.if-index-width.false
