use Rattle.std.proofs.Common.{not, sym, subst}
use Rattle.bv_bits.specs.declared.Op.TheVariants as op
use Rattle.term_arena.proofs.MeaningLemmas.{keeps_trans}
use Rattle.term_arena.proofs.MakesLemmas.{makes_as}
use Rattle.sym_parts.specs.Compares.{ComparesSo}
use Rattle.sym_parts.proofs.comparing.differ.Goals as goal

pub returns-in-Terms-clause-makes : goal.returns-in-Terms-clause-makes
returns-in-Terms-clause-makes c =
    makes_as c.different_terms.ensures.makes (λ last k. sym (c.in-Terms.ensures.so op.Ne not last (keeps_trans c.args.terms.now c.different_terms.new.terms last c.different_terms.ensures.makes.kept k)))

pub returns-in-Known-clause-makes : goal.returns-in-Known-clause-makes
returns-in-Known-clause-makes c =
    makes_as c.known_truth.ensures.makes (λ last k. sym (c.in-Known.ensures.so op.Ne not last (keeps_trans c.args.terms.now c.known_truth.new.terms last c.known_truth.ensures.makes.kept k)))
