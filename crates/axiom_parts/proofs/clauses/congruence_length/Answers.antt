use Rattle.axiom_parts.proofs.CongruenceLemmas.{byte_length}
use Rattle.axiom_parts.proofs.clauses.congruence_length.Goals as goal

pub returns-then-bit-lt8 : goal.returns-then-bit-lt8
returns-then-bit-lt8 c = λ p x y. byte_length p c.args.q x y c.args.part c.args.bit c.args.row c.if-part-q.false c.if-row-gt1.false c.if-part-eq0.false c.if-bit-lt8.true
