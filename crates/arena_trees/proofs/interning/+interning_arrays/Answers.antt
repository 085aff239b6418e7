use Rattle.std.proofs.Common.{◌≡◌, ap, sym, ◌∙◌, subst}
use Rattle.term_tree.specs.Terms.{Tree, ArrayTree, array, upd, splice, IsTypedArray}
use Rattle.term_tree.specs.View.{tree, array_tree}
use Rattle.term_arena.specs.Said.{Said, whole_array}
use Rattle.term_arena.proofs.MeaningLemmas.{keeps_itself, keeps_trans}
use Rattle.term_arena.proofs.MakesLemmas.{reaches_start, reaches_step, reaches_stop, reaches_end, makes_stop, makes_as}
use Rattle.arena_trees.proofs.InternLemmas.{array_tree_var, array_tree_upd, array_tree_splice, upd_whole, splice_whole, upd_is, splice_is}
use Rattle.arena_trees.proofs.interning.+interning_arrays.Goals as goal

-- ---- an array but for one byte

pub interned_updated-returns-in-Err-clause-makes : goal.interned_updated-returns-in-Err-clause-makes
interned_updated-returns-in-Err-clause-makes t c =
    upd_whole c.args.terms.now _ _ (array_tree c.args.of.now) (tree c.args.at.now) (tree c.args.by.now) (makes_stop _ c.in-Err.ensures.makes)

pub interned_updated-returns-in-Err-interned-clause-makes : goal.interned_updated-returns-in-Err-interned-clause-makes
interned_updated-returns-in-Err-interned-clause-makes t c =
    upd_whole c.args.terms.now _ _ (array_tree c.args.of.now) (tree c.args.at.now) (tree c.args.by.now) (reaches_stop _ (reaches_step _ reaches_start c.in-Ok.ensures.makes) c.in-Err-interned.ensures.makes)

pub interned_updated-returns-in-Err-interned-2-clause-makes : goal.interned_updated-returns-in-Err-interned-2-clause-makes
interned_updated-returns-in-Err-interned-2-clause-makes t c =
    upd_whole c.args.terms.now _ _ (array_tree c.args.of.now) (tree c.args.at.now) (tree c.args.by.now)
    (reaches_stop _ (reaches_step _ (reaches_step _ reaches_start c.in-Ok.ensures.makes) c.in-Ok-interned.ensures.makes) c.in-Err-interned-2.ensures.makes)

pub interned_updated-add_array-requires-clause-typed : goal.interned_updated-add_array-requires-clause-typed
interned_updated-add_array-requires-clause-typed t c =
    let n = c.interned-2.new.terms in
    let s = c.in-Ok-interned.ensures.makes in
    let u = c.in-Ok-interned-2.ensures.makes in
    subst IsTypedArray
    (sym (upd_is n c.in-Ok.rest c.in-Ok-interned.index c.in-Ok-interned-2.byte (array_tree c.args.of.now) (tree c.args.at.now) (tree c.args.by.now) (c.in-Ok.ensures.makes.tells n (keeps_trans _ _ n s.kept u.kept)).0 (s.tells n u.kept).0 (u.tells n (keeps_itself n)).0))
    c.requires.array.typed

pub interned_updated-returns-in-Ok-interned-2-clause-makes : goal.interned_updated-returns-in-Ok-interned-2-clause-makes
interned_updated-returns-in-Ok-interned-2-clause-makes t c =
    upd_whole c.args.terms.now _ _ (array_tree c.args.of.now) (tree c.args.at.now) (tree c.args.by.now)
    (reaches_end (reaches_step _ (reaches_step _ (reaches_step _ reaches_start c.in-Ok.ensures.makes) c.in-Ok-interned.ensures.makes) c.in-Ok-interned-2.ensures.makes) c.add_array.ensures.makes)

-- ---- two arrays that are joined at an index

pub interned_spliced-returns-in-Err-clause-makes : goal.interned_spliced-returns-in-Err-clause-makes
interned_spliced-returns-in-Err-clause-makes t c =
    splice_whole c.args.terms.now _ _ (array_tree c.args.of.now) (array_tree c.args.below.now) (tree c.args.at.now) (makes_stop _ c.in-Err.ensures.makes)

pub interned_spliced-returns-in-Err-interned_array-clause-makes : goal.interned_spliced-returns-in-Err-interned_array-clause-makes
interned_spliced-returns-in-Err-interned_array-clause-makes t c =
    splice_whole c.args.terms.now _ _ (array_tree c.args.of.now) (array_tree c.args.below.now) (tree c.args.at.now) (reaches_stop _ (reaches_step _ reaches_start c.in-Ok.ensures.makes) c.in-Err-interned_array.ensures.makes)

pub interned_spliced-returns-in-Err-interned-clause-makes : goal.interned_spliced-returns-in-Err-interned-clause-makes
interned_spliced-returns-in-Err-interned-clause-makes t c =
    splice_whole c.args.terms.now _ _ (array_tree c.args.of.now) (array_tree c.args.below.now) (tree c.args.at.now)
    (reaches_stop _ (reaches_step _ (reaches_step _ reaches_start c.in-Ok.ensures.makes) c.in-Ok-interned_array.ensures.makes) c.in-Err-interned.ensures.makes)

pub interned_spliced-add_array-requires-clause-typed : goal.interned_spliced-add_array-requires-clause-typed
interned_spliced-add_array-requires-clause-typed t c =
    let n = c.interned.new.terms in
    let s = c.in-Ok-interned_array.ensures.makes in
    let u = c.in-Ok-interned.ensures.makes in
    subst IsTypedArray
    (sym (splice_is n c.in-Ok.rest c.in-Ok-interned_array.low c.in-Ok-interned.index (array_tree c.args.of.now) (array_tree c.args.below.now) (tree c.args.at.now) (c.in-Ok.ensures.makes.tells n (keeps_trans _ _ n s.kept u.kept)).0 (s.tells n u.kept).0 (u.tells n (keeps_itself n)).0))
    c.requires.array.typed

pub interned_spliced-returns-in-Ok-interned-clause-makes : goal.interned_spliced-returns-in-Ok-interned-clause-makes
interned_spliced-returns-in-Ok-interned-clause-makes t c =
    splice_whole c.args.terms.now _ _ (array_tree c.args.of.now) (array_tree c.args.below.now) (tree c.args.at.now)
    (reaches_end (reaches_step _ (reaches_step _ (reaches_step _ reaches_start c.in-Ok.ensures.makes) c.in-Ok-interned_array.ensures.makes) c.in-Ok-interned.ensures.makes) c.add_array.ensures.makes)

-- ---- the form of an array term

pub interned_array-returns-in-Var-clause-makes : goal.interned_array-returns-in-Var-clause-makes
interned_array-returns-in-Var-clause-makes t c =
    makes_as c.add_array.ensures.makes (λ last k. ap (λ (f : ArrayTree). let s : Said ⊥ ArrayTree = whole_array f in s) (ap array c.bytes.ensures ∙ sym (array_tree_var c.in-Var.name) ∙ ap array_tree (sym c.in-Var.is)))

pub interned_array-returns-in-Upd-clause-makes : goal.interned_array-returns-in-Upd-clause-makes
interned_array-returns-in-Upd-clause-makes t c =
    let p = c.in-Upd in
    let e : upd (array_tree c.get.result.now) (tree c.get-in-Upd.result.now) (tree c.get-in-Upd-2.result.now) ≡ array_tree c.args.term.now =
    ap (λ (f : ArrayTree). upd f (tree c.get-in-Upd.result.now) (tree c.get-in-Upd-2.result.now)) (ap array_tree c.get.ensures)
    ∙ ap (λ (i : Tree). upd (array_tree p.of) i (tree c.get-in-Upd-2.result.now)) (ap tree c.get-in-Upd.ensures)
    ∙ ap (upd (array_tree p.of) (tree p.at)) (ap tree c.get-in-Upd-2.ensures)
    ∙ sym (array_tree_upd p.of p.at p.by)
    ∙ ap array_tree (sym p.is) in
    makes_as c.interned_updated.ensures.makes (λ last k. ap (λ (f : ArrayTree). let s : Said ⊥ ArrayTree = whole_array f in s) e)

pub interned_array-returns-in-Splice-clause-makes : goal.interned_array-returns-in-Splice-clause-makes
interned_array-returns-in-Splice-clause-makes t c =
    let p = c.in-Splice in
    let e : splice (array_tree c.get-in-Splice.result.now) (array_tree c.get-in-Splice-2.result.now) (tree c.get-in-Splice-3.result.now) ≡ array_tree c.args.term.now =
    ap (λ (f : ArrayTree). splice f (array_tree c.get-in-Splice-2.result.now) (tree c.get-in-Splice-3.result.now)) (ap array_tree c.get-in-Splice.ensures)
    ∙ ap (λ (f : ArrayTree). splice (array_tree p.of) f (tree c.get-in-Splice-3.result.now)) (ap array_tree c.get-in-Splice-2.ensures)
    ∙ ap (splice (array_tree p.of) (array_tree p.below)) (ap tree c.get-in-Splice-3.ensures)
    ∙ sym (array_tree_splice p.of p.below p.at)
    ∙ ap array_tree (sym p.is) in
    makes_as c.interned_spliced.ensures.makes (λ last k. ap (λ (f : ArrayTree). let s : Said ⊥ ArrayTree = whole_array f in s) e)
