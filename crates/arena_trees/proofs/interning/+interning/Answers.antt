use Rattle.std.proofs.Common.{ap, sym, ◌∙◌, subst}
use Rattle.term_tree.specs.Terms.{Text, Tree, var, sel, IsTyped}
use Rattle.term_tree.specs.View.{tree}
use Rattle.term_arena.specs.Answers.{id_term}
use Rattle.term_arena.specs.Said.{Said, single}
use Rattle.term_arena.proofs.MeaningLemmas.{keeps_itself, keeps_trans}
use Rattle.term_arena.proofs.MakesLemmas.{reaches_start, reaches_step, reaches_stop, reaches_end, makes_stop, makes_as}
use Rattle.arena_trees.proofs.InternLemmas.{whole_as, one_whole, two_whole, three_whole, sel_whole, two_is, three_is}
use Rattle.arena_trees.proofs.interning.+interning.Goals as goal

-- ---- two arguments

pub interned_two-returns-in-Err-clause-makes : goal.interned_two-returns-in-Err-clause-makes
interned_two-returns-in-Err-clause-makes t c =
    two_whole c.args.terms.now _ _ c.args.op (tree c.args.a.now) (tree c.args.b.now) (makes_stop _ c.in-Err.ensures.makes)

pub interned_two-returns-in-Err-interned-clause-makes : goal.interned_two-returns-in-Err-interned-clause-makes
interned_two-returns-in-Err-interned-clause-makes t c =
    two_whole c.args.terms.now _ _ c.args.op (tree c.args.a.now) (tree c.args.b.now) (reaches_stop _ (reaches_step _ reaches_start c.in-Ok.ensures.makes) c.in-Err-interned.ensures.makes)

pub interned_two-add_term-requires-clause-typed : goal.interned_two-add_term-requires-clause-typed
interned_two-add_term-requires-clause-typed t c =
    let n = c.interned-2.new.terms in
    let s = c.in-Ok-interned.ensures.makes in
    subst IsTyped (sym (two_is n c.args.op c.in-Ok.x c.in-Ok-interned.y (tree c.args.a.now) (tree c.args.b.now) (c.in-Ok.ensures.makes.tells n s.kept).0 (s.tells n (keeps_itself n)).0)) c.requires.term.typed

pub interned_two-returns-in-Ok-interned-clause-makes : goal.interned_two-returns-in-Ok-interned-clause-makes
interned_two-returns-in-Ok-interned-clause-makes t c =
    two_whole c.args.terms.now _ _ c.args.op (tree c.args.a.now) (tree c.args.b.now) (reaches_end (reaches_step _ (reaches_step _ reaches_start c.in-Ok.ensures.makes) c.in-Ok-interned.ensures.makes) c.add_term.ensures.makes)

-- ---- three arguments

pub interned_three-returns-in-Err-clause-makes : goal.interned_three-returns-in-Err-clause-makes
interned_three-returns-in-Err-clause-makes t c =
    three_whole c.args.terms.now _ _ c.args.op (tree c.args.a.now) (tree c.args.b.now) (tree c.args.c.now) (makes_stop _ c.in-Err.ensures.makes)

pub interned_three-returns-in-Err-interned-clause-makes : goal.interned_three-returns-in-Err-interned-clause-makes
interned_three-returns-in-Err-interned-clause-makes t c =
    three_whole c.args.terms.now _ _ c.args.op (tree c.args.a.now) (tree c.args.b.now) (tree c.args.c.now) (reaches_stop _ (reaches_step _ reaches_start c.in-Ok.ensures.makes) c.in-Err-interned.ensures.makes)

pub interned_three-returns-in-Err-interned-2-clause-makes : goal.interned_three-returns-in-Err-interned-2-clause-makes
interned_three-returns-in-Err-interned-2-clause-makes t c =
    three_whole c.args.terms.now _ _ c.args.op (tree c.args.a.now) (tree c.args.b.now) (tree c.args.c.now)
    (reaches_stop _ (reaches_step _ (reaches_step _ reaches_start c.in-Ok.ensures.makes) c.in-Ok-interned.ensures.makes) c.in-Err-interned-2.ensures.makes)

pub interned_three-add_term-requires-clause-typed : goal.interned_three-add_term-requires-clause-typed
interned_three-add_term-requires-clause-typed t c =
    let n = c.interned-3.new.terms in
    let s = c.in-Ok-interned.ensures.makes in
    let u = c.in-Ok-interned-2.ensures.makes in
    subst IsTyped
    (sym (three_is n c.args.op c.in-Ok.x c.in-Ok-interned.y c.in-Ok-interned-2.z (tree c.args.a.now) (tree c.args.b.now) (tree c.args.c.now) (c.in-Ok.ensures.makes.tells n (keeps_trans _ _ n s.kept u.kept)).0 (s.tells n u.kept).0 (u.tells n (keeps_itself n)).0))
    c.requires.term.typed

pub interned_three-returns-in-Ok-interned-2-clause-makes : goal.interned_three-returns-in-Ok-interned-2-clause-makes
interned_three-returns-in-Ok-interned-2-clause-makes t c =
    three_whole c.args.terms.now _ _ c.args.op (tree c.args.a.now) (tree c.args.b.now) (tree c.args.c.now)
    (reaches_end (reaches_step _ (reaches_step _ (reaches_step _ reaches_start c.in-Ok.ensures.makes) c.in-Ok-interned.ensures.makes) c.in-Ok-interned-2.ensures.makes) c.add_term.ensures.makes)

-- ---- the form of a term

pub interned-returns-in-Lit-clause-makes : goal.interned-returns-in-Lit-clause-makes
interned-returns-in-Lit-clause-makes t c = whole_as c.args.terms.now _ _ (tree c.args.term.now) _ c.in-Lit.ensures.form c.add_term.ensures.makes

pub interned-returns-in-Var-clause-makes : goal.interned-returns-in-Var-clause-makes
interned-returns-in-Var-clause-makes t c =
    let w = c.in-Var.width in
    whole_as c.args.terms.now _ _ (tree c.args.term.now) (var c.bytes.result.now w) (c.in-Var.ensures.form ∙ sym (ap (λ (x : Text). var x w) c.bytes.ensures)) c.add_term-in-Var.ensures.makes

pub interned-returns-in-Err-clause-makes : goal.interned-returns-in-Err-clause-makes
interned-returns-in-Err-clause-makes t c = one_whole c.args.terms.now _ _ c.in-One.op (tree c.in-One.a.now) (tree c.args.term.now) c.in-One.ensures.form (makes_stop _ c.in-Err.ensures.makes)

pub interned-returns-in-Ok-clause-makes : goal.interned-returns-in-Ok-clause-makes
interned-returns-in-Ok-clause-makes t c =
    one_whole c.args.terms.now _ _ c.in-One.op (tree c.in-One.a.now) (tree c.args.term.now) c.in-One.ensures.form (reaches_end (reaches_step _ reaches_start c.in-Ok.ensures.makes) c.add_term-in-Ok.ensures.makes)

pub interned-returns-in-Two-clause-makes : goal.interned-returns-in-Two-clause-makes
interned-returns-in-Two-clause-makes t c = whole_as c.args.terms.now _ _ (tree c.args.term.now) _ c.in-Two.ensures.form c.interned_two.ensures.makes

pub interned-returns-in-Three-clause-makes : goal.interned-returns-in-Three-clause-makes
interned-returns-in-Three-clause-makes t c = whole_as c.args.terms.now _ _ (tree c.args.term.now) _ c.in-Three.ensures.form c.interned_three.ensures.makes

pub interned-returns-in-Err-interned-clause-makes : goal.interned-returns-in-Err-interned-clause-makes
interned-returns-in-Err-interned-clause-makes t c = sel_whole c.args.terms.now _ _ c.in-Sel.of.now (tree c.in-Sel.at.now) (tree c.args.term.now) c.in-Sel.ensures.form (makes_stop _ c.in-Err-interned.ensures.makes)

pub interned-returns-in-Ok-interned-clause-makes : goal.interned-returns-in-Ok-interned-clause-makes
interned-returns-in-Ok-interned-clause-makes t c =
    sel_whole c.args.terms.now _ _ c.in-Sel.of.now (tree c.in-Sel.at.now) (tree c.args.term.now) c.in-Sel.ensures.form
    (reaches_end (reaches_step _ reaches_start c.in-Ok-interned.ensures.makes)
    (makes_as c.add_term-in-Ok-interned.ensures.makes (λ last k. ap (λ (x : Text). let s : Said ⊥ Tree = single (sel x (id_term last c.in-Ok-interned.at)) in s) c.bytes-in-Ok-interned.ensures)))
