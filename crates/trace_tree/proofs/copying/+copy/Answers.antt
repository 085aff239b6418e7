use Rattle.std.proofs.Common.{[], sym, ap, ◌∙◌, subst, arith}
use Rattle.term_tree.specs.Terms.{IsTyped}
use Rattle.trace_plain.specs.Terms.{OfEnd}
use Rattle.trace_plain.specs.Trace.{cases, end_size}
use Rattle.trace_plain.specs.View.{traces}
use Rattle.trace_tree.specs.View.{end_in, plain_in}
use Rattle.trace_tree.proofs.ViewLemmas.{cases_in}
use Rattle.trace_tree.proofs.CopyLemmas.{below_all, first_terms}
use Rattle.trace_tree.proofs.PlainLemmas.{end_cases}
use Rattle.trace_tree.proofs.copying.+copy.Goals as goal

pub copy_end-copy_children-requires : goal.copy_end-copy_children-requires
copy_end-copy_children-requires t c =
    let e = ap (end_in []) c.in-Cases.is ∙ cases_in [] c.in-Cases.children in
    (omega (arith, ap end_size e), subst (OfEnd IsTyped) (ap (end_in c.args.terms.now) c.in-Cases.is ∙ cases_in c.args.terms.now c.in-Cases.children) c.requires.terms)

pub copy_children-copy_onto-requires : goal.copy_children-copy_onto-requires
copy_children-copy_onto-requires t c =
    (below_all c.args.children.now c.loop-child.child-index _ t c.loop-child-test.true c.decreases, (first_terms IsTyped (plain_in c.args.terms.now) c.args.children.now c.loop-child.child-index _ c.loop-child-test.true c.loop-child.invariant.1).0)

pub copy_end-returns-in_ok-children-in-Cases : goal.copy_end-returns-in_ok-children-in-Cases
copy_end-returns-in_ok-children-in-Cases t c = record {
  end =
      end_cases c.in_ok-children-in-Cases.children
      ∙ ap (λ ts. cases (traces ts)) c.in_ok-children-in-Cases.ensures.children
      ∙ sym (ap (end_in c.args.terms.now) c.in-Cases.is ∙ cases_in c.args.terms.now c.in-Cases.children);
}
