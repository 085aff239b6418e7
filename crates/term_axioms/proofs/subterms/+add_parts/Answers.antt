use Rattle.std.proofs.Common.{◌≡◌, ℕ, List, map, ap, ◌++◌, drop, OnOk, [], ◌∷◌, refl, sym, ◌∙◌, arith}
use Rattle.std.proofs.lemmas.Result.{on_ok_weaker}
use Rattle.term_tree.specs.Terms.{lit, var}
use Rattle.term_arena.specs.Answers.{id_term}
use Rattle.term_arena.proofs.TopLemmas.{none, sel_at}
use Rattle.std.proofs.Math.ListN.{drop_of_length-le}
use Rattle.term_arena.specs.declared.node.TermId.{TermId}
use Rattle.term_copy.specs.Parts.{all_parts, first_ones}
use Rattle.term_axioms.specs.Listing.{trees}
use Rattle.term_axioms.proofs.PartLemmas.{has_args, one_more, Ends, ends, there, alone, behind_index}
use Rattle.term_axioms.proofs.subterms.+add_parts.Goals as goal

pub returns-then-contains-clause-added : goal.returns-then-contains-clause-added
returns-then-contains-clause-added t c =
    there c.args.terms.now c.laws.ensures.equal c.args.id.number c.requires.term c.args.done.now c.requires.listed (sym c.contains.ensures ∙ c.if-contains.true)

pub add_parts-requires : goal.add_parts-requires
add_parts-requires t c =
    let has = has_args c.args.terms.now c.laws.ensures.arena c.args.id.number c.requires.term c.in-App.op c.in-App.args.now c.in-App.ensures.node in
    let part = has.each c.loop-arg.arg-index none c.loop-arg-test.true in
    let d = c.decreases in
    let low = part.0 in
    (omega (arith, d, low), (part.1, c.loop-arg.invariant.listed))

pub loop-arg-preserved : goal.loop-arg-preserved
loop-arg-preserved t c = record {
  left =
      let nodes = c.args.terms.now in
      one_more (id_term nodes) c.in-App.args.now c.loop-arg.arg-index (trees nodes c.loop-arg.done) (trees nodes c.add_parts.new.done) (id_term nodes c.args.id ∷ []) _ c.loop-arg-test.true
      c.in_ok-add_parts-in-App.ensures.added c.loop-arg.invariant.left;
  listed = c.in_ok-add_parts-in-App.ensures.still_listed;
}

pub add_parts-requires-in-Sel : goal.add_parts-requires-in-Sel
add_parts-requires-in-Sel t c =
    let p = sel_at c.args.terms.now c.laws.ensures.arena c.args.id.number c.requires.term c.in-Sel.of.now c.in-Sel.at c.in-Sel.ensures.node in
    let d = c.decreases in
    let low = p.0 in
    (omega (arith, d, low), (p.1, c.requires.listed))

-- ---- the term behind its parts

in_lit : (t : ℕ) (c : goal.After-add t) → OnOk c.add.result (Ends c.args.terms.now (trees c.args.terms.now c.args.done.now) c.add.new.self (id_term c.args.terms.now c.args.id))
in_lit t c =
    let nodes = c.args.terms.now in
    let d = trees nodes c.args.done.now in
    let left = alone d (id_term nodes c.args.id) (lit c.in-Lit.field-0) c.in-Lit.ensures.term refl in
    on_ok_weaker c.add.result (ends nodes c.laws.ensures.equal c.args.id.number c.requires.term d c.args.done.now c.add.new.self c.requires.listed left) c.add.ensures

pub returns-in-Lit-clause-added : goal.returns-in-Lit-clause-added
returns-in-Lit-clause-added t c = on_ok_weaker c.add.result (λ e. e.added) (in_lit t c)

pub returns-in-Lit-clause-still_listed : goal.returns-in-Lit-clause-still_listed
returns-in-Lit-clause-still_listed t c = on_ok_weaker c.add.result (λ e. e.listed) (in_lit t c)

in_var : (t : ℕ) (c : goal.After-add-in-Var t) → OnOk c.add-in-Var.result (Ends c.args.terms.now (trees c.args.terms.now c.args.done.now) c.add-in-Var.new.self (id_term c.args.terms.now c.args.id))
in_var t c =
    let nodes = c.args.terms.now in
    let d = trees nodes c.args.done.now in
    let left = alone d (id_term nodes c.args.id) (var c.in-Var.name.now c.in-Var.width) c.in-Var.ensures.term refl in
    on_ok_weaker c.add-in-Var.result (ends nodes c.laws.ensures.equal c.args.id.number c.requires.term d c.args.done.now c.add-in-Var.new.self c.requires.listed left) c.add-in-Var.ensures

pub returns-in-Var-clause-added : goal.returns-in-Var-clause-added
returns-in-Var-clause-added t c = on_ok_weaker c.add-in-Var.result (λ e. e.added) (in_var t c)

pub returns-in-Var-clause-still_listed : goal.returns-in-Var-clause-still_listed
returns-in-Var-clause-still_listed t c = on_ok_weaker c.add-in-Var.result (λ e. e.listed) (in_var t c)

in_app : (t : ℕ) (c : goal.After-add-in-App t) → OnOk c.add-in-App.result (Ends c.args.terms.now (trees c.args.terms.now c.args.done.now) c.add-in-App.new.self (id_term c.args.terms.now c.args.id))
in_app t c =
    let nodes = c.args.terms.now in
    let d = trees nodes c.args.done.now in
    let args = c.in-App.args.now in
    let last = id_term nodes c.args.id ∷ [] in
    let past : drop c.loop-arg.arg-index args ≡ [] = drop_of_length-le args (omega (arith, c.loop-arg-test.false)) in
    let left = sym (ap (λ (l : List TermId). first_ones (trees nodes c.loop-arg.done) (all_parts (map (id_term nodes) l) ++ last)) past) ∙ c.loop-arg.invariant.left in
    on_ok_weaker c.add-in-App.result (ends nodes c.laws.ensures.equal c.args.id.number c.requires.term d c.loop-arg.done c.add-in-App.new.self c.requires.listed left) c.add-in-App.ensures

pub returns-after-loop-arg-clause-added : goal.returns-after-loop-arg-clause-added
returns-after-loop-arg-clause-added t c = on_ok_weaker c.add-in-App.result (λ e. e.added) (in_app t c)

pub returns-after-loop-arg-clause-still_listed : goal.returns-after-loop-arg-clause-still_listed
returns-after-loop-arg-clause-still_listed t c = on_ok_weaker c.add-in-App.result (λ e. e.listed) (in_app t c)

in_sel : (t : ℕ) (c : goal.After-add-in-Sel t) → OnOk c.add-in-Sel.result (Ends c.args.terms.now (trees c.args.terms.now c.args.done.now) c.add-in-Sel.new.self (id_term c.args.terms.now c.args.id))
in_sel t c =
    let nodes = c.args.terms.now in
    let d = trees nodes c.args.done.now in
    let p = sel_at nodes c.laws.ensures.arena c.args.id.number c.requires.term c.in-Sel.of.now c.in-Sel.at c.in-Sel.ensures.node in
    let left = behind_index d (trees nodes c.add_parts-in-Sel.new.done) (id_term nodes c.args.id) (id_term nodes c.in-Sel.at) c.in-Sel.of.now p.2 c.in_ok-add_parts-in-Sel.ensures.added in
    on_ok_weaker c.add-in-Sel.result (ends nodes c.laws.ensures.equal c.args.id.number c.requires.term d c.add_parts-in-Sel.new.done c.add-in-Sel.new.self c.requires.listed left) c.add-in-Sel.ensures

pub returns-in_ok-add_parts-in-Sel-clause-added : goal.returns-in_ok-add_parts-in-Sel-clause-added
returns-in_ok-add_parts-in-Sel-clause-added t c = on_ok_weaker c.add-in-Sel.result (λ e. e.added) (in_sel t c)

pub returns-in_ok-add_parts-in-Sel-clause-still_listed : goal.returns-in_ok-add_parts-in-Sel-clause-still_listed
returns-in_ok-add_parts-in-Sel-clause-still_listed t c = on_ok_weaker c.add-in-Sel.result (λ e. e.listed) (in_sel t c)
