use Rattle.std.proofs.Common.{sym, subst}
use Rattle.term_arena.specs.Makes.{MakesWith}
use Rattle.sym_rules.specs.Operators.{sym_operate_one}
use Rattle.sym_parts.specs.Causes.{step_cause}
use Rattle.sym_parts.specs.Views.{value_in}
use Rattle.sym_parts.proofs.operators.operate_one.Goals as goal

pub returns-in-Bits-clause-makes : goal.returns-in-Bits-clause-makes
returns-in-Bits-clause-makes c =
    subst (λ v. MakesWith step_cause c.args.terms.now c.operate_term.new.terms value_in c.operate_term.result (λ last. sym_operate_one c.args.op (value_in last v))) (sym c.in-Bits.is)
    c.operate_term.ensures.makes
