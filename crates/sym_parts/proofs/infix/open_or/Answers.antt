use Rattle.std.proofs.Common.{sym, ap}
use Rattle.term_arena.proofs.MakesLemmas.{makes_as}
use Rattle.sym_rules.specs.Operators.{open_or}
use Rattle.sym_parts.specs.Views.{value_in}
use Rattle.sym_parts.proofs.infix.open_or.Goals as goal

pub returns-in-Unit-clause-makes : goal.returns-in-Unit-clause-makes
returns-in-Unit-clause-makes c = makes_as c.operate.ensures.makes (λ last k. ap (λ v. open_or c.args.op (value_in last v) (value_in last c.args.b)) (sym c.in-Unit.is))

pub returns-in-Bits-clause-makes : goal.returns-in-Bits-clause-makes
returns-in-Bits-clause-makes c = makes_as c.operate-in-Bits.ensures.makes (λ last k. ap (λ v. open_or c.args.op (value_in last v) (value_in last c.args.b)) (sym c.in-Bits.is))

pub returns-in-Member-clause-makes : goal.returns-in-Member-clause-makes
returns-in-Member-clause-makes c = makes_as c.operate-in-Member.ensures.makes (λ last k. ap (λ v. open_or c.args.op (value_in last v) (value_in last c.args.b)) (sym c.in-Member.is))
