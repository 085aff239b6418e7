use Rattle.axiom_parts.proofs.RowLemmas.{any_length}
use Rattle.axiom_parts.proofs.clauses.any_length.Goals as goal

pub returns : goal.returns
returns c = any_length c.args.o c.args.term c.args.width
