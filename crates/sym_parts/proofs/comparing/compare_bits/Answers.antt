use Rattle.std.proofs.Common.{◌≡◌}
use Rattle.sym_parts.proofs.CompareLemmas.{are_same, are_other, by_terms, known_other}
use Rattle.sym_parts.proofs.comparing.compare_bits.Goals as goal

pub returns-then-width-clause-so : goal.returns-then-width-clause-so
returns-then-width-clause-so c =
    by_terms c.args.terms.now c.args.a c.args.b c.requires.first c.requires.second (are_same c.width.result c.width-2.result _ _ c.width.ensures c.width-2.ensures c.if-width.true)

pub returns-else-width-clause-so : goal.returns-else-width-clause-so
returns-else-width-clause-so c =
    known_other c.args.terms.now c.args.a c.args.b c.requires.first c.requires.second (are_other c.width.result c.width-2.result _ _ c.width.ensures c.width-2.ensures c.if-width.false)
