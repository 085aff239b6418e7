use Rattle.std.proofs.Common.{Some, ap, sym, ◌∙◌}
use Rattle.term_arena.proofs.MakesLemmas.{makes_as}
use Rattle.sym_rules.specs.Parts.{known_bit, name_condition}
use Rattle.sym_parts.specs.Views.{value_in}
use Rattle.sym_parts.proofs.conditions.thing_condition.Goals as goal

pub returns-in-Member-clause-makes : goal.returns-in-Member-clause-makes
returns-in-Member-clause-makes c =
    makes_as c.known_bit.ensures.makes (λ last k. ap known_bit (c.is_member.ensures last) ∙ ap (λ t. name_condition (Some t) (value_in last c.args.value)) (sym c.in-Member.is))

pub returns-in-Register-clause-makes : goal.returns-in-Register-clause-makes
returns-in-Register-clause-makes c = makes_as c.known_bit-in-Register.ensures.makes (λ last k. ap (λ t. name_condition (Some t) (value_in last c.args.value)) (sym c.in-Register.is))

pub returns-in-Given-clause-makes : goal.returns-in-Given-clause-makes
returns-in-Given-clause-makes c = makes_as c.known_bit-in-Given.ensures.makes (λ last k. ap (λ t. name_condition (Some t) (value_in last c.args.value)) (sym c.in-Given.is))

pub returns-in-Function-clause-makes : goal.returns-in-Function-clause-makes
returns-in-Function-clause-makes c = makes_as c.known_bit-in-Function.ensures.makes (λ last k. ap (λ t. name_condition (Some t) (value_in last c.args.value)) (sym c.in-Function.is))
