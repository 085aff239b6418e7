use Rattle.std.proofs.Common.{ap, sym, subst, arith}
use Rattle.std.proofs.lemmas.Option.{get_or_from_slice_get}
use Rattle.bv_bits.specs.declared.Op.TheVariants.{Eq, ULt}
use Rattle.term_tree.specs.Terms.{Text, Tree, two, sel, upd, splice, IsTypedArray}
use Rattle.term_make.specs.Making.{make}
use Rattle.term_select.specs.Selecting.{select}
use Rattle.term_arena.specs.Nodes.{lit_node}
use Rattle.term_arena.specs.Arena.{name_of}
use Rattle.term_arena.specs.Answers.{id_term, id_array}
use Rattle.term_arena.specs.Said.{Said, single}
use Rattle.term_arena.proofs.MeaningLemmas.{keeps_itself, keeps_trans}
use Rattle.term_arena.proofs.MakesLemmas.{reaches_start, reaches_step, reaches_stop, reaches_end, makes_stop, makes_as}
use Rattle.term_arena.proofs.StayLemmas.{typed_array_stays, index_stays, upd_stays, splice_stays}
use Rattle.term_arena.proofs.AnswerLemmas.{makes_it}
use Rattle.arena_make.proofs.SelectLemmas.{upd_owed, splice_owed, upd_makes, splice_makes, variable_makes, select_as, select_wide}
use Rattle.arena_make.proofs.selecting.+selecting.Goals as goal

-- ---- an array but for one byte

pub select_updated-returns-in-Err-clause-makes : goal.select_updated-returns-in-Err-clause-makes
select_updated-returns-in-Err-clause-makes t c =
    upd_makes c.args.terms.now _ _ c.args.rest c.args.place c.args.by c.args.at (makes_stop _ c.in-Err.ensures.makes)

pub select_updated-select-requires : goal.select_updated-select-requires
select_updated-select-requires t c =
    let o = c.args.terms.now in
    let k = c.in-Ok.ensures.makes.kept in
    let d = c.decreases in
    (omega (arith, d), (typed_array_stays o _ k c.args.rest c.requires.array.0, index_stays o _ k c.args.at c.requires.index))

pub select_updated-returns-in-Err-select-clause-makes : goal.select_updated-returns-in-Err-select-clause-makes
select_updated-returns-in-Err-select-clause-makes t c =
    upd_makes c.args.terms.now _ _ c.args.rest c.args.place c.args.by c.args.at (reaches_stop _ (reaches_step _ reaches_start c.in-Ok.ensures.makes) c.in-Err-select.ensures.makes)

pub select_updated-make-requires-2 : goal.select_updated-make-requires-2
select_updated-make-requires-2 t c =
    let o = c.args.terms.now in
    let n = c.select.new.terms in
    let k = keeps_trans o _ n c.in-Ok.ensures.makes.kept c.in-Ok-select.ensures.makes.kept in
    record {
      typed =
          upd_owed (id_array n c.args.rest) (id_term n c.args.place) (id_term n c.args.by) (id_term n c.args.at) (id_term n c.in-Ok.same) (id_term n c.in-Ok-select.other)
          (makes_it o _ id_term c.in-Ok.same (λ last. make (two Eq (id_term last c.args.at) (id_term last c.args.place))) c.in-Ok.ensures.makes n c.in-Ok-select.ensures.makes.kept)
          (makes_it _ n id_term c.in-Ok-select.other (λ last. select (id_array last c.args.rest) (id_term last c.args.at)) c.in-Ok-select.ensures.makes n (keeps_itself n))
          (subst IsTypedArray (sym (upd_stays o n k c.args.rest c.args.place c.args.by c.requires.array)) c.requires.array) (index_stays o n k c.args.at c.requires.index);
    }

pub select_updated-returns-clause-makes : goal.select_updated-returns-clause-makes
select_updated-returns-clause-makes t c =
    upd_makes c.args.terms.now _ _ c.args.rest c.args.place c.args.by c.args.at (reaches_end (reaches_step _ (reaches_step _ reaches_start c.in-Ok.ensures.makes) c.in-Ok-select.ensures.makes) c.make-2.ensures.makes)

-- ---- two arrays that are joined at an index

pub select_spliced-returns-in-Err-clause-makes : goal.select_spliced-returns-in-Err-clause-makes
select_spliced-returns-in-Err-clause-makes t c =
    splice_makes c.args.terms.now _ _ c.args.rest c.args.below c.args.place c.args.at (makes_stop _ c.in-Err.ensures.makes)

pub select_spliced-select-requires : goal.select_spliced-select-requires
select_spliced-select-requires t c =
    let o = c.args.terms.now in
    let k = c.in-Ok.ensures.makes.kept in
    let d = c.decreases in
    (omega (arith, d), (typed_array_stays o _ k c.args.below c.requires.array.1, index_stays o _ k c.args.at c.requires.index))

pub select_spliced-returns-in-Err-select-clause-makes : goal.select_spliced-returns-in-Err-select-clause-makes
select_spliced-returns-in-Err-select-clause-makes t c =
    splice_makes c.args.terms.now _ _ c.args.rest c.args.below c.args.place c.args.at (reaches_stop _ (reaches_step _ reaches_start c.in-Ok.ensures.makes) c.in-Err-select.ensures.makes)

pub select_spliced-select-requires-2 : goal.select_spliced-select-requires-2
select_spliced-select-requires-2 t c =
    let o = c.args.terms.now in
    let k = keeps_trans o _ _ c.in-Ok.ensures.makes.kept c.in-Ok-select.ensures.makes.kept in
    let d = c.decreases in
    (omega (arith, d), (typed_array_stays o _ k c.args.rest c.requires.array.0, index_stays o _ k c.args.at c.requires.index))

pub select_spliced-returns-in-Err-select-2-clause-makes : goal.select_spliced-returns-in-Err-select-2-clause-makes
select_spliced-returns-in-Err-select-2-clause-makes t c =
    splice_makes c.args.terms.now _ _ c.args.rest c.args.below c.args.place c.args.at (reaches_stop _ (reaches_step _ (reaches_step _ reaches_start c.in-Ok.ensures.makes) c.in-Ok-select.ensures.makes) c.in-Err-select-2.ensures.makes)

pub select_spliced-make-requires-2 : goal.select_spliced-make-requires-2
select_spliced-make-requires-2 t c =
    let o = c.args.terms.now in
    let n = c.select-2.new.terms in
    let j = c.in-Ok-select-2.ensures.makes.kept in
    let i = keeps_trans _ _ n c.in-Ok-select.ensures.makes.kept j in
    let k = keeps_trans o _ n c.in-Ok.ensures.makes.kept i in
    record {
      typed =
          splice_owed (id_array n c.args.rest) (id_array n c.args.below) (id_term n c.args.place) (id_term n c.args.at) (id_term n c.in-Ok.low) (id_term n c.in-Ok-select.one) (id_term n c.in-Ok-select-2.other)
          (makes_it o _ id_term c.in-Ok.low (λ last. make (two ULt (id_term last c.args.at) (id_term last c.args.place))) c.in-Ok.ensures.makes n i)
          (makes_it _ _ id_term c.in-Ok-select.one (λ last. select (id_array last c.args.below) (id_term last c.args.at)) c.in-Ok-select.ensures.makes n j)
          (makes_it _ n id_term c.in-Ok-select-2.other (λ last. select (id_array last c.args.rest) (id_term last c.args.at)) c.in-Ok-select-2.ensures.makes n (keeps_itself n))
          (subst IsTypedArray (sym (splice_stays o n k c.args.rest c.args.below c.args.place c.requires.array)) c.requires.array) (index_stays o n k c.args.at c.requires.index);
    }

pub select_spliced-returns-clause-makes : goal.select_spliced-returns-clause-makes
select_spliced-returns-clause-makes t c =
    splice_makes c.args.terms.now _ _ c.args.rest c.args.below c.args.place c.args.at (reaches_end (reaches_step _ (reaches_step _ (reaches_step _ reaches_start c.in-Ok.ensures.makes)
    c.in-Ok-select.ensures.makes) c.in-Ok-select-2.ensures.makes) c.make-2.ensures.makes)

-- ---- the top of an array term

pub select-returns-in-Var-clause-makes : goal.select-returns-in-Var-clause-makes
select-returns-in-Var-clause-makes t c =
    let o = c.args.terms.now in
    let m = c.add_term.ensures.makes in
    let p = c.in-Var.ensures in
    let name = ap name_of (get_or_from_slice_get o c.args.of.number _ (lit_node (record { width = 0; value = 0 })) p.1) in
    variable_makes o _ m.kept _ c.args.of c.args.at c.laws.ensures.arena c.requires.index.1 p.0 p.2
    (makes_as m (λ last k. ap (λ (x : Text). let s : Said ⊥ Tree = single (sel x (id_term last c.args.at)) in s) name))

pub select-returns-in-Var-clause-wide : goal.select-returns-in-Var-clause-wide
select-returns-in-Var-clause-wide t c = select_wide c.args.terms.now _ c.add_term.ensures.makes.kept _ c.args.of c.args.at c.requires.array c.requires.index (select-returns-in-Var-clause-makes t c)

pub select-select_updated-requires : goal.select-select_updated-requires
select-select_updated-requires t c =
    let o = c.args.terms.now in
    let p = c.in-Upd.ensures in
    let d = c.decreases in
    (omega (arith, d, p.1), (subst IsTypedArray (p.0 o (keeps_itself o)) c.requires.array, c.requires.index))

pub select-returns-in-Upd-clause-makes : goal.select-returns-in-Upd-clause-makes
select-returns-in-Upd-clause-makes t c =
    let p = c.in-Upd in
    select_as c.args.terms.now _ c.select_updated.ensures.makes.kept _ c.args.of c.args.at (λ last. upd (id_array last p.rest) (id_term last p.place) (id_term last p.by)) p.ensures.0 c.select_updated.ensures.makes

pub select-returns-in-Upd-clause-wide : goal.select-returns-in-Upd-clause-wide
select-returns-in-Upd-clause-wide t c = select_wide c.args.terms.now _ c.select_updated.ensures.makes.kept _ c.args.of c.args.at c.requires.array c.requires.index (select-returns-in-Upd-clause-makes t c)

pub select-select_spliced-requires : goal.select-select_spliced-requires
select-select_spliced-requires t c =
    let o = c.args.terms.now in
    let p = c.in-Splice.ensures in
    let d = c.decreases in
    (omega (arith, d, p.1, p.2), (subst IsTypedArray (p.0 o (keeps_itself o)) c.requires.array, c.requires.index))

pub select-returns-in-Splice-clause-makes : goal.select-returns-in-Splice-clause-makes
select-returns-in-Splice-clause-makes t c =
    let p = c.in-Splice in
    select_as c.args.terms.now _ c.select_spliced.ensures.makes.kept _ c.args.of c.args.at (λ last. splice (id_array last p.rest) (id_array last p.below) (id_term last p.place)) p.ensures.0 c.select_spliced.ensures.makes

pub select-returns-in-Splice-clause-wide : goal.select-returns-in-Splice-clause-wide
select-returns-in-Splice-clause-wide t c = select_wide c.args.terms.now _ c.select_spliced.ensures.makes.kept _ c.args.of c.args.at c.requires.array c.requires.index (select-returns-in-Splice-clause-makes t c)
