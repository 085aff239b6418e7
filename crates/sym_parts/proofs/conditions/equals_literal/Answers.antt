use Rattle.std.proofs.Common.{◌≡◌, List, refl, sym, ap, ◌∙◌, subst}
use Rattle.term_arena.proofs.MakesLemmas.{makes_as}
use Rattle.sym_rules.specs.Parts.{equals_literal}
use Rattle.term_tree.specs.Terms.{IsTyped}
use Rattle.term_arena.specs.declared.node.TermId.{TermId}
use Rattle.term_arena.specs.Nodes.{Node}
use Rattle.term_arena.specs.Answers.{id_term}
use Rattle.term_arena.proofs.MeaningLemmas.{keeps_trans}
use Rattle.sym_parts.specs.declared.values.SymValue.{SymValue}
use Rattle.sym_parts.specs.declared.values.SymValue.TheVariants as value
use Rattle.sym_parts.specs.Views.{value_in}
use Rattle.sym_parts.specs.Fits.{ValueFits}
use Rattle.sym_parts.proofs.CompareLemmas.{are_same, are_other}
use Rattle.sym_parts.proofs.ConditionLemmas.{is_eq, is_other}
use Rattle.sym_parts.proofs.conditions.equals_literal.Goals as goal

typed_of : (nodes : List Node) (v : SymValue) (id : TermId) → v ≡ value.Bits id → ValueFits nodes v → IsTyped (id_term nodes id)
typed_of nodes v id is h = subst (ValueFits nodes) is h

pub returns-in-Unit-clause-makes : goal.returns-in-Unit-clause-makes
returns-in-Unit-clause-makes c = makes_as c.known_bit-in-Unit.ensures.makes (λ last k. ap (λ v. equals_literal c.args.bits (value_in last v)) (sym c.in-Unit.is))

pub returns-in-Truth-clause-makes : goal.returns-in-Truth-clause-makes
returns-in-Truth-clause-makes c = makes_as c.known_bit-in-Truth.ensures.makes (λ last k. ap (λ v. equals_literal c.args.bits (value_in last v)) (sym c.in-Truth.is))

pub returns-in-Member-clause-makes : goal.returns-in-Member-clause-makes
returns-in-Member-clause-makes c = makes_as c.known_bit-in-Member.ensures.makes (λ last k. ap (λ v. equals_literal c.args.bits (value_in last v)) (sym c.in-Member.is))

pub returns-then-bits-width-clause-makes : goal.returns-then-bits-width-clause-makes
returns-then-bits-width-clause-makes c =
    makes_as c.equals_bits.ensures.makes (λ last k.
    is_eq c.args.terms.now c.args.bits c.in-Bits.id (typed_of c.args.terms.now c.args.value c.in-Bits.id c.in-Bits.is c.requires.fits) (are_same c.args.bits.width c.width.result _ _ refl c.width.ensures c.if-bits-width.true)
    last (keeps_trans c.args.terms.now c.equals_bits.new.terms last c.equals_bits.ensures.makes.kept k)
    ∙ ap (λ v. equals_literal c.args.bits (value_in last v)) (sym c.in-Bits.is))

pub returns-else-bits-width-clause-makes : goal.returns-else-bits-width-clause-makes
returns-else-bits-width-clause-makes c =
    makes_as c.known_bit.ensures.makes (λ last k.
    is_other c.args.terms.now c.args.bits c.in-Bits.id (typed_of c.args.terms.now c.args.value c.in-Bits.id c.in-Bits.is c.requires.fits) (are_other c.args.bits.width c.width.result _ _ refl c.width.ensures c.if-bits-width.false)
    last (keeps_trans c.args.terms.now c.known_bit.new.terms last c.known_bit.ensures.makes.kept k)
    ∙ ap (λ v. equals_literal c.args.bits (value_in last v)) (sym c.in-Bits.is))
