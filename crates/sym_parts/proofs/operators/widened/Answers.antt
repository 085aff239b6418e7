use Rattle.std.proofs.Common.{sym, ap}
use Rattle.term_arena.proofs.MakesLemmas.{makes_as}
use Rattle.sym_rules.specs.Operators.{sym_widened}
use Rattle.sym_parts.specs.Views.{value_in}
use Rattle.sym_parts.proofs.operators.widened.Goals as goal

pub returns-then-signed-clause-makes : goal.returns-then-signed-clause-makes
returns-then-signed-clause-makes c = makes_as c.operate_one.ensures.makes (λ last k. ap (λ b. sym_widened b c.args.to (value_in last c.args.value)) (sym c.if-signed.true))

pub returns-else-signed-clause-makes : goal.returns-else-signed-clause-makes
returns-else-signed-clause-makes c = makes_as c.operate_one-else-signed.ensures.makes (λ last k. ap (λ b. sym_widened b c.args.to (value_in last c.args.value)) (sym c.if-signed.false))
