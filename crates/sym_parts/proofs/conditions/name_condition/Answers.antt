use Rattle.std.proofs.Common.{ap, sym}
use Rattle.term_arena.proofs.MakesLemmas.{makes_as}
use Rattle.sym_rules.specs.Parts.{name_condition}
use Rattle.sym_parts.specs.Views.{value_in}
use Rattle.sym_parts.proofs.conditions.name_condition.Goals as goal

pub returns-in-Some-clause-makes : goal.returns-in-Some-clause-makes
returns-in-Some-clause-makes c = makes_as c.thing_condition.ensures.makes (λ last k. ap (λ o. name_condition o (value_in last c.args.value)) (sym c.in-Some.is))

pub returns-in-None-clause-makes : goal.returns-in-None-clause-makes
returns-in-None-clause-makes c = makes_as c.known_bit.ensures.makes (λ last k. ap (λ o. name_condition o (value_in last c.args.value)) (sym c.in-None.is))
