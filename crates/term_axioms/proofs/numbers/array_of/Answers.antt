use Rattle.std.proofs.Common.{ℕ, Option, Some, cond, sym, ap, ◌∙◌}
use Rattle.std.specs.Prelude.{bytes_eq}
use Rattle.term_tree.specs.Terms.{Text}
use Rattle.term_arena.specs.Nodes.{meanings_of}
use Rattle.term_arena.specs.Answers.{id_term}
use Rattle.axiom_trees.specs.Numbered.{is_byte_of}
use Rattle.term_axioms.specs.Listing.{trees}
use Rattle.term_axioms.specs.Arrays.{number_for}
use Rattle.term_axioms.proofs.ArrayLemmas.{known_number, new_number, after_known, after_new, after_other, app_is_no_byte}
use Rattle.term_axioms.proofs.numbers.array_of.Goals as goal

pub returns-in-Some-clause-number : goal.returns-in-Some-clause-number
returns-in-Some-clause-number c =
    let nodes = c.args.terms.now in
    let first = sym (c.requires.before c.in-Sel.of.now) ∙ sym (c.get.ensures ∙ ap (number_for c.args.arrays.now) c.bytes.ensures) ∙ c.in-Some.is in
    known_number (trees nodes c.args.places.now) c.args.here (id_term nodes c.args.id) c.requires.at c.in-Sel.of.now (id_term nodes c.in-Sel.at) c.in-Sel.ensures.term c.in-Some.number first

pub returns-in-Some-clause-after : goal.returns-in-Some-clause-after
returns-in-Some-clause-after c = λ f.
    let nodes = c.args.terms.now in
    let first = sym (c.requires.before c.in-Sel.of.now) ∙ sym (c.get.ensures ∙ ap (number_for c.args.arrays.now) c.bytes.ensures) ∙ c.in-Some.is in
    c.requires.before f
    ∙ sym (after_known (trees nodes c.args.places.now) c.args.here (id_term nodes c.args.id) c.requires.at c.in-Sel.of.now (id_term nodes c.in-Sel.at) c.in-Sel.ensures.term c.in-Some.number first f)

pub returns-in_ok-put-in-None-clause-number : goal.returns-in_ok-put-in-None-clause-number
returns-in_ok-put-in-None-clause-number c =
    let nodes = c.args.terms.now in
    let first = sym (c.requires.before c.in-Sel.of.now) ∙ sym (c.get.ensures ∙ ap (number_for c.args.arrays.now) c.bytes.ensures) ∙ c.in-None.is in
    new_number (trees nodes c.args.places.now) c.args.here (id_term nodes c.args.id) c.requires.at c.in-Sel.of.now (id_term nodes c.in-Sel.at) c.in-Sel.ensures.term first

pub returns-in_ok-put-in-None-clause-after : goal.returns-in_ok-put-in-None-clause-after
returns-in_ok-put-in-None-clause-after c = λ f.
    let nodes = c.args.terms.now in
    let first = sym (c.requires.before c.in-Sel.of.now) ∙ sym (c.get.ensures ∙ ap (number_for c.args.arrays.now) c.bytes.ensures) ∙ c.in-None.is in
    c.in_ok-put-in-None.ensures f
    ∙ ap (λ (t : Text). cond (bytes_eq t f) (Some c.args.here) (number_for c.args.arrays.now f)) c.bytes-in-None.ensures
    ∙ ap (λ (o : Option ℕ). cond (bytes_eq c.in-Sel.of.now f) (Some c.args.here) o) (c.requires.before f)
    ∙ sym (after_new (trees nodes c.args.places.now) c.args.here (id_term nodes c.args.id) c.requires.at c.in-Sel.of.now (id_term nodes c.in-Sel.at) c.in-Sel.ensures.term first f)

pub returns-in-Lit-clause-after : goal.returns-in-Lit-clause-after
returns-in-Lit-clause-after c = λ f.
    let nodes = c.args.terms.now in
    c.requires.before f ∙ sym (after_other (trees nodes c.args.places.now) c.args.here (id_term nodes c.args.id) c.requires.at f (ap (is_byte_of f) c.in-Lit.ensures.term))

pub returns-in-Var-clause-after : goal.returns-in-Var-clause-after
returns-in-Var-clause-after c = λ f.
    let nodes = c.args.terms.now in
    c.requires.before f ∙ sym (after_other (trees nodes c.args.places.now) c.args.here (id_term nodes c.args.id) c.requires.at f (ap (is_byte_of f) c.in-Var.ensures.term))

pub returns-in-App-clause-after : goal.returns-in-App-clause-after
returns-in-App-clause-after c = λ f.
    let nodes = c.args.terms.now in
    c.requires.before f
    ∙ sym (after_other (trees nodes c.args.places.now) c.args.here (id_term nodes c.args.id) c.requires.at f (ap (is_byte_of f) c.in-App.ensures.term ∙ app_is_no_byte f (meanings_of nodes) c.in-App.op c.in-App.args.now))
