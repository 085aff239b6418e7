use Rattle.std.proofs.Common.{sym, ap, ◌∙◌}
use Rattle.term_arena.proofs.MakesLemmas.{makes_as}
use Rattle.sym_rules.specs.Parts.{equals_truth}
use Rattle.sym_parts.specs.declared.values.SymValue.TheVariants as value
use Rattle.sym_parts.specs.Views.{value_in}
use Rattle.sym_parts.proofs.conditions.equals_truth.Goals as goal

pub returns-in-Unit-clause-makes : goal.returns-in-Unit-clause-makes
returns-in-Unit-clause-makes c = makes_as c.known_bit.ensures.makes (λ last k. ap (λ v. equals_truth c.args.truth (value_in last v)) (sym c.in-Unit.is))

pub returns-in-Bits-clause-makes : goal.returns-in-Bits-clause-makes
returns-in-Bits-clause-makes c = makes_as c.known_bit-in-Bits.ensures.makes (λ last k. ap (λ v. equals_truth c.args.truth (value_in last v)) (sym c.in-Bits.is))

pub returns-in-Member-clause-makes : goal.returns-in-Member-clause-makes
returns-in-Member-clause-makes c = makes_as c.known_bit-in-Member.ensures.makes (λ last k. ap (λ v. equals_truth c.args.truth (value_in last v)) (sym c.in-Member.is))

pub returns-else-truth-clause-makes : goal.returns-else-truth-clause-makes
returns-else-truth-clause-makes c =
    makes_as c.make_term.ensures.makes (λ last k. ap (λ b. equals_truth b (value_in last (value.Truth c.in-Truth.id))) (sym c.if-truth.false) ∙ ap (λ v. equals_truth c.args.truth (value_in last v)) (sym c.in-Truth.is))
