use Rattle.std.proofs.Common.{sym, ap}
use Rattle.term_arena.proofs.MakesLemmas.{makes_as}
use Rattle.sym_rules.specs.Operators.{sym_applied}
use Rattle.sym_parts.specs.Views.{value_in}
use Rattle.sym_parts.proofs.infix.applied.Goals as goal

pub returns-in-Add-clause-makes : goal.returns-in-Add-clause-makes
returns-in-Add-clause-makes c = makes_as c.operate.ensures.makes (λ last k. ap (λ o. sym_applied o (value_in last c.args.a) (value_in last c.args.b)) (sym c.in-Add.is))

pub returns-in-Sub-clause-makes : goal.returns-in-Sub-clause-makes
returns-in-Sub-clause-makes c = makes_as c.operate-in-Sub.ensures.makes (λ last k. ap (λ o. sym_applied o (value_in last c.args.a) (value_in last c.args.b)) (sym c.in-Sub.is))

pub returns-in-Mul-clause-makes : goal.returns-in-Mul-clause-makes
returns-in-Mul-clause-makes c = makes_as c.operate-in-Mul.ensures.makes (λ last k. ap (λ o. sym_applied o (value_in last c.args.a) (value_in last c.args.b)) (sym c.in-Mul.is))

pub returns-in-And-clause-makes : goal.returns-in-And-clause-makes
returns-in-And-clause-makes c = makes_as c.open_or.ensures.makes (λ last k. ap (λ o. sym_applied o (value_in last c.args.a) (value_in last c.args.b)) (sym c.in-And.is))

pub returns-in-Or-clause-makes : goal.returns-in-Or-clause-makes
returns-in-Or-clause-makes c = makes_as c.open_or-in-Or.ensures.makes (λ last k. ap (λ o. sym_applied o (value_in last c.args.a) (value_in last c.args.b)) (sym c.in-Or.is))

pub returns-in-Xor-clause-makes : goal.returns-in-Xor-clause-makes
returns-in-Xor-clause-makes c = makes_as c.operate-in-Xor.ensures.makes (λ last k. ap (λ o. sym_applied o (value_in last c.args.a) (value_in last c.args.b)) (sym c.in-Xor.is))

pub returns-in-Join-clause-makes : goal.returns-in-Join-clause-makes
returns-in-Join-clause-makes c = makes_as c.operate-in-Join.ensures.makes (λ last k. ap (λ o. sym_applied o (value_in last c.args.a) (value_in last c.args.b)) (sym c.in-Join.is))

pub returns-in-Eq-clause-makes : goal.returns-in-Eq-clause-makes
returns-in-Eq-clause-makes c = makes_as c.same.ensures.makes (λ last k. ap (λ o. sym_applied o (value_in last c.args.a) (value_in last c.args.b)) (sym c.in-Eq.is))

pub returns-in-Ne-clause-makes : goal.returns-in-Ne-clause-makes
returns-in-Ne-clause-makes c = makes_as c.differ.ensures.makes (λ last k. ap (λ o. sym_applied o (value_in last c.args.a) (value_in last c.args.b)) (sym c.in-Ne.is))
