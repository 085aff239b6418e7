use Rattle.std.proofs.Common.{sym, subst}
use Rattle.bv_bits.specs.declared.Op.TheVariants as op
use Rattle.term_arena.proofs.MeaningLemmas.{keeps_trans}
use Rattle.term_arena.proofs.MakesLemmas.{makes_as}
use Rattle.sym_rules.specs.Operators.{as_it_is}
use Rattle.sym_parts.specs.Compares.{ComparesSo}
use Rattle.sym_parts.proofs.comparing.same.Goals as goal

pub returns-in-Terms-clause-makes : goal.returns-in-Terms-clause-makes
returns-in-Terms-clause-makes c =
    makes_as c.equal_terms.ensures.makes (λ last k. sym (c.in-Terms.ensures.so op.Eq as_it_is last (keeps_trans c.args.terms.now c.equal_terms.new.terms last c.equal_terms.ensures.makes.kept k)))

pub returns-in-Known-clause-makes : goal.returns-in-Known-clause-makes
returns-in-Known-clause-makes c =
    makes_as c.known_truth.ensures.makes (λ last k. sym (c.in-Known.ensures.so op.Eq as_it_is last (keeps_trans c.args.terms.now c.known_truth.new.terms last c.known_truth.ensures.makes.kept k)))
