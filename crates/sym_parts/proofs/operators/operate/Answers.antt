use Rattle.std.proofs.Common.{sym, subst}
use Rattle.term_arena.specs.Makes.{MakesWith}
use Rattle.sym_rules.specs.Operators.{sym_operate}
use Rattle.sym_parts.specs.declared.values.SymValue.TheVariants as value
use Rattle.sym_parts.specs.Causes.{step_cause}
use Rattle.sym_parts.specs.Views.{value_in}
use Rattle.sym_parts.proofs.operators.operate.Goals as goal

pub returns-in-Bits-Bits-clause-makes : goal.returns-in-Bits-Bits-clause-makes
returns-in-Bits-Bits-clause-makes c =
    subst (λ v. MakesWith step_cause c.args.terms.now c.operate_two.new.terms value_in c.operate_two.result (λ last. sym_operate c.args.op (value_in last v) (value_in last c.args.b))) (sym c.in-Bits-Bits.is-0)
    (subst (λ v. MakesWith step_cause c.args.terms.now c.operate_two.new.terms value_in c.operate_two.result (λ last. sym_operate c.args.op (value_in last (value.Bits c.in-Bits-Bits.a)) (value_in last v))) (sym c.in-Bits-Bits.is-1)
    c.operate_two.ensures.makes)
