use Rattle.std.proofs.Common.{refl, ap, sym, ◌∙◌, subst, arith}
use Rattle.term_tree.specs.Terms.{upd, splice, IsTypedArray}
use Rattle.term_make.specs.Making.{just}
use Rattle.term_replace.specs.Replacing.{substitute, substitute_array, FitsArray}
use Rattle.term_arena.specs.Answers.{id_term, id_array}
use Rattle.term_arena.proofs.MeaningLemmas.{keeps_itself, keeps_trans}
use Rattle.term_arena.proofs.MakesLemmas.{reaches_start, reaches_step, reaches_stop, reaches_end, makes_stop, makes_none, on_any}
use Rattle.term_arena.proofs.StayLemmas.{typed_stays, typed_array_stays, index_stays, byte_stays}
use Rattle.term_arena.proofs.AnswerLemmas.{makes_it}
use Rattle.arena_replace.proofs.KnownLemmas.{knows_keeps, knows_array, array_kept}
use Rattle.arena_replace.proofs.SubstituteLemmas.{made_part, made_array, upd_makes, splice_makes, fits_stays, fits_array_stays, known_array_makes, same_array_makes, made_array_stands, made_array_as}
use Rattle.arena_replace.proofs.replacing_arrays.+replacing_arrays.Goals as goal

-- ---- an array but for one byte

pub remade_updated-returns-in-Err-clause-makes : goal.remade_updated-returns-in-Err-clause-makes
remade_updated-returns-in-Err-clause-makes t c by k f =
    upd_makes by c.args.terms.now _ _ c.args.of c.args.at c.args.byte (makes_stop _ (c.in-Err.ensures.makes by k f.0))

pub remade_updated-replaced-requires : goal.remade_updated-replaced-requires
remade_updated-replaced-requires t c =
    let o = c.args.terms.now in
    let r = c.requires.known in
    let m = c.in-Ok.ensures.makes r.0 r.1 r.2.0 in
    record {
      term = typed_stays o _ m.kept c.args.at c.requires.array.1.1;
      known = (r.0, c.in-Ok.ensures.known r.0 r.1, fits_stays r.0 o _ m.kept c.args.at c.requires.array.1.1 r.2.1);
    }

pub remade_updated-returns-in-Err-replaced-clause-makes : goal.remade_updated-returns-in-Err-replaced-clause-makes
remade_updated-returns-in-Err-replaced-clause-makes t c by k f =
    let o = c.args.terms.now in
    let m = c.in-Ok.ensures.makes by k f.0 in
    upd_makes by o _ _ c.args.of c.args.at c.args.byte (reaches_stop _ (reaches_step _ reaches_start m) (c.in-Err-replaced.ensures.makes by (c.in-Ok.ensures.known by k) (fits_stays by o _ m.kept c.args.at c.requires.array.1.1 f.1)))

pub remade_updated-replaced-requires-2 : goal.remade_updated-replaced-requires-2
remade_updated-replaced-requires-2 t c =
    let o = c.args.terms.now in
    let r = c.requires.known in
    let more = c.in-Ok.ensures.known r.0 r.1 in
    let m = c.in-Ok.ensures.makes r.0 r.1 r.2.0 in
    let s = c.in-Ok-replaced.ensures.makes r.0 more (fits_stays r.0 o _ m.kept c.args.at c.requires.array.1.1 r.2.1) in
    let k = keeps_trans o _ _ m.kept s.kept in
    record {
      term = typed_stays o _ k c.args.byte c.requires.array.2.1;
      known = (r.0, c.in-Ok-replaced.ensures.known r.0 more, fits_stays r.0 o _ k c.args.byte c.requires.array.2.1 r.2.2);
    }

pub remade_updated-returns-in-Err-replaced-2-clause-makes : goal.remade_updated-returns-in-Err-replaced-2-clause-makes
remade_updated-returns-in-Err-replaced-2-clause-makes t c by k f =
    let o = c.args.terms.now in
    let m = c.in-Ok.ensures.makes by k f.0 in
    let more = c.in-Ok.ensures.known by k in
    let s = c.in-Ok-replaced.ensures.makes by more (fits_stays by o _ m.kept c.args.at c.requires.array.1.1 f.1) in
    upd_makes by o _ _ c.args.of c.args.at c.args.byte (reaches_stop _ (reaches_step _ (reaches_step _ reaches_start m) s)
    (c.in-Err-replaced-2.ensures.makes by (c.in-Ok-replaced.ensures.known by more) (fits_stays by o _ (keeps_trans o _ _ m.kept s.kept) c.args.byte c.requires.array.2.1 f.2)))

pub remade_updated-update-requires : goal.remade_updated-update-requires
remade_updated-update-requires t c =
    let o = c.args.terms.now in
    let n = c.replaced-2.new.terms in
    let r = c.requires.known in
    let h = c.requires.array in
    let more = c.in-Ok.ensures.known r.0 r.1 in
    let m = c.in-Ok.ensures.makes r.0 r.1 r.2.0 in
    let s = c.in-Ok-replaced.ensures.makes r.0 more (fits_stays r.0 o _ m.kept c.args.at h.1.1 r.2.1) in
    let j = keeps_trans o _ _ m.kept s.kept in
    let u = c.in-Ok-replaced-2.ensures.makes r.0 (c.in-Ok-replaced.ensures.known r.0 more) (fits_stays r.0 o _ j c.args.byte h.2.1 r.2.2) in
    let k = keeps_trans o _ n j u.kept in
    record {
      array =
          made_array r.0 r.1.typed (id_array n c.args.of) (id_array n c.in-Ok.rest) (fits_array_stays r.0 o n k c.args.of h.0 r.2.0) (typed_array_stays o n k c.args.of h.0)
          (makes_it o _ id_array c.in-Ok.rest (λ last. substitute_array r.0 (id_array last c.args.of)) m n (keeps_trans _ _ n s.kept u.kept));
      index =
          made_part r.0 r.1.typed (id_term n c.args.at) (id_term n c.in-Ok-replaced.index) 64 (fits_stays r.0 o n k c.args.at h.1.1 r.2.1) (index_stays o n k c.args.at h.1)
          (makes_it _ _ id_term c.in-Ok-replaced.index (λ last. substitute r.0 (id_term last c.args.at)) s n u.kept);
      byte =
          made_part r.0 r.1.typed (id_term n c.args.byte) (id_term n c.in-Ok-replaced-2.value) 8 (fits_stays r.0 o n k c.args.byte h.2.1 r.2.2) (byte_stays o n k c.args.byte h.2)
          (makes_it _ n id_term c.in-Ok-replaced-2.value (λ last. substitute r.0 (id_term last c.args.byte)) u n (keeps_itself n));
    }

pub remade_updated-returns-in-Ok-replaced-2-clause-makes : goal.remade_updated-returns-in-Ok-replaced-2-clause-makes
remade_updated-returns-in-Ok-replaced-2-clause-makes t c by k f =
    let o = c.args.terms.now in
    let m = c.in-Ok.ensures.makes by k f.0 in
    let more = c.in-Ok.ensures.known by k in
    let s = c.in-Ok-replaced.ensures.makes by more (fits_stays by o _ m.kept c.args.at c.requires.array.1.1 f.1) in
    let u = c.in-Ok-replaced-2.ensures.makes by (c.in-Ok-replaced.ensures.known by more) (fits_stays by o _ (keeps_trans o _ _ m.kept s.kept) c.args.byte c.requires.array.2.1 f.2) in
    upd_makes by o _ _ c.args.of c.args.at c.args.byte (reaches_end (reaches_step _ (reaches_step _ (reaches_step _ reaches_start m) s) u) c.update.ensures.makes)

pub remade_updated-returns-in-Ok-replaced-2-clause-known : goal.remade_updated-returns-in-Ok-replaced-2-clause-known
remade_updated-returns-in-Ok-replaced-2-clause-known t c =
    on_any c.update.result _ (λ by k. knows_keeps c.replaced-2.new.terms c.update.new.terms by c.update.ensures.makes.kept c.replaced-2.new.known (c.in-Ok-replaced-2.ensures.known by (c.in-Ok-replaced.ensures.known by (c.in-Ok.ensures.known by k))))

-- ---- two arrays that are joined at an index

pub remade_spliced-returns-in-Err-clause-makes : goal.remade_spliced-returns-in-Err-clause-makes
remade_spliced-returns-in-Err-clause-makes t c by k f =
    splice_makes by c.args.terms.now _ _ c.args.of c.args.below c.args.at (makes_stop _ (c.in-Err.ensures.makes by k f.0))

pub remade_spliced-replaced_array-requires-2 : goal.remade_spliced-replaced_array-requires-2
remade_spliced-replaced_array-requires-2 t c =
    let o = c.args.terms.now in
    let r = c.requires.known in
    let m = c.in-Ok.ensures.makes r.0 r.1 r.2.0 in
    let d = c.decreases in
    (omega (arith, d), (typed_array_stays o _ m.kept c.args.below c.requires.array.1, (r.0, c.in-Ok.ensures.known r.0 r.1, fits_array_stays r.0 o _ m.kept c.args.below c.requires.array.1 r.2.1)))

pub remade_spliced-returns-in-Err-replaced_array-clause-makes : goal.remade_spliced-returns-in-Err-replaced_array-clause-makes
remade_spliced-returns-in-Err-replaced_array-clause-makes t c by k f =
    let o = c.args.terms.now in
    let m = c.in-Ok.ensures.makes by k f.0 in
    splice_makes by o _ _ c.args.of c.args.below c.args.at (reaches_stop _ (reaches_step _ reaches_start m)
    (c.in-Err-replaced_array.ensures.makes by (c.in-Ok.ensures.known by k) (fits_array_stays by o _ m.kept c.args.below c.requires.array.1 f.1)))

pub remade_spliced-replaced-requires : goal.remade_spliced-replaced-requires
remade_spliced-replaced-requires t c =
    let o = c.args.terms.now in
    let r = c.requires.known in
    let more = c.in-Ok.ensures.known r.0 r.1 in
    let m = c.in-Ok.ensures.makes r.0 r.1 r.2.0 in
    let s = c.in-Ok-replaced_array.ensures.makes r.0 more (fits_array_stays r.0 o _ m.kept c.args.below c.requires.array.1 r.2.1) in
    let k = keeps_trans o _ _ m.kept s.kept in
    record {
      term = typed_stays o _ k c.args.at c.requires.array.2.1;
      known = (r.0, c.in-Ok-replaced_array.ensures.known r.0 more, fits_stays r.0 o _ k c.args.at c.requires.array.2.1 r.2.2);
    }

pub remade_spliced-returns-in-Err-replaced-clause-makes : goal.remade_spliced-returns-in-Err-replaced-clause-makes
remade_spliced-returns-in-Err-replaced-clause-makes t c by k f =
    let o = c.args.terms.now in
    let m = c.in-Ok.ensures.makes by k f.0 in
    let more = c.in-Ok.ensures.known by k in
    let s = c.in-Ok-replaced_array.ensures.makes by more (fits_array_stays by o _ m.kept c.args.below c.requires.array.1 f.1) in
    splice_makes by o _ _ c.args.of c.args.below c.args.at (reaches_stop _ (reaches_step _ (reaches_step _ reaches_start m) s)
    (c.in-Err-replaced.ensures.makes by (c.in-Ok-replaced_array.ensures.known by more) (fits_stays by o _ (keeps_trans o _ _ m.kept s.kept) c.args.at c.requires.array.2.1 f.2)))

pub remade_spliced-join-requires : goal.remade_spliced-join-requires
remade_spliced-join-requires t c =
    let o = c.args.terms.now in
    let n = c.replaced.new.terms in
    let r = c.requires.known in
    let h = c.requires.array in
    let more = c.in-Ok.ensures.known r.0 r.1 in
    let m = c.in-Ok.ensures.makes r.0 r.1 r.2.0 in
    let s = c.in-Ok-replaced_array.ensures.makes r.0 more (fits_array_stays r.0 o _ m.kept c.args.below h.1 r.2.1) in
    let j = keeps_trans o _ _ m.kept s.kept in
    let u = c.in-Ok-replaced.ensures.makes r.0 (c.in-Ok-replaced_array.ensures.known r.0 more) (fits_stays r.0 o _ j c.args.at h.2.1 r.2.2) in
    let k = keeps_trans o _ n j u.kept in
    record {
      array =
          made_array r.0 r.1.typed (id_array n c.args.of) (id_array n c.in-Ok.rest) (fits_array_stays r.0 o n k c.args.of h.0 r.2.0) (typed_array_stays o n k c.args.of h.0)
          (makes_it o _ id_array c.in-Ok.rest (λ last. substitute_array r.0 (id_array last c.args.of)) m n (keeps_trans _ _ n s.kept u.kept));
      low_array =
          made_array r.0 r.1.typed (id_array n c.args.below) (id_array n c.in-Ok-replaced_array.low) (fits_array_stays r.0 o n k c.args.below h.1 r.2.1) (typed_array_stays o n k c.args.below h.1)
          (makes_it _ _ id_array c.in-Ok-replaced_array.low (λ last. substitute_array r.0 (id_array last c.args.below)) s n u.kept);
      index =
          made_part r.0 r.1.typed (id_term n c.args.at) (id_term n c.in-Ok-replaced.index) 64 (fits_stays r.0 o n k c.args.at h.2.1 r.2.2) (index_stays o n k c.args.at h.2)
          (makes_it _ n id_term c.in-Ok-replaced.index (λ last. substitute r.0 (id_term last c.args.at)) u n (keeps_itself n));
    }

pub remade_spliced-returns-in-Ok-replaced-clause-makes : goal.remade_spliced-returns-in-Ok-replaced-clause-makes
remade_spliced-returns-in-Ok-replaced-clause-makes t c by k f =
    let o = c.args.terms.now in
    let m = c.in-Ok.ensures.makes by k f.0 in
    let more = c.in-Ok.ensures.known by k in
    let s = c.in-Ok-replaced_array.ensures.makes by more (fits_array_stays by o _ m.kept c.args.below c.requires.array.1 f.1) in
    let u = c.in-Ok-replaced.ensures.makes by (c.in-Ok-replaced_array.ensures.known by more) (fits_stays by o _ (keeps_trans o _ _ m.kept s.kept) c.args.at c.requires.array.2.1 f.2) in
    splice_makes by o _ _ c.args.of c.args.below c.args.at (reaches_end (reaches_step _ (reaches_step _ (reaches_step _ reaches_start m) s) u) c.join.ensures.makes)

pub remade_spliced-returns-in-Ok-replaced-clause-known : goal.remade_spliced-returns-in-Ok-replaced-clause-known
remade_spliced-returns-in-Ok-replaced-clause-known t c =
    on_any c.join.result _ (λ by k. knows_keeps c.replaced.new.terms c.join.new.terms by c.join.ensures.makes.kept c.replaced.new.known (c.in-Ok-replaced.ensures.known by (c.in-Ok-replaced_array.ensures.known by (c.in-Ok.ensures.known by k))))

-- ---- the top of an array term

pub remade_array-returns-in-Var-clause-makes : goal.remade_array-returns-in-Var-clause-makes
remade_array-returns-in-Var-clause-makes t c by k f =
    let o = c.args.terms.now in
    let p = c.in-Var.ensures in
    let e = p.2 o (keeps_itself o) in
    let same = array_kept o by c.args.known.now k p.0 c.args.array.number c.laws.ensures.equal_arrays e c.requires.new in
    same_array_makes by o c.args.array c.requires.array (ap (substitute_array by) e ∙ ap just (same ∙ sym e))

pub remade_array-remade_updated-requires : goal.remade_array-remade_updated-requires
remade_array-remade_updated-requires t c =
    let o = c.args.terms.now in
    let p = c.in-Upd.ensures in
    let e = p.0 o (keeps_itself o) in
    let r = c.requires.known in
    let d = c.decreases in
    (omega (arith, d, p.1), (subst IsTypedArray e c.requires.array, (r.0, r.1, subst (FitsArray r.0) e r.2)))

pub remade_array-returns-in-Upd-clause-makes : goal.remade_array-returns-in-Upd-clause-makes
remade_array-returns-in-Upd-clause-makes t c by k f =
    let o = c.args.terms.now in
    let p = c.in-Upd in
    made_array_as by o _ _ c.args.array (λ last. upd (id_array last p.of) (id_term last p.at) (id_term last p.by)) p.ensures.0 (c.remade_updated.ensures.makes by k (subst (FitsArray by) (p.ensures.0 o (keeps_itself o)) f))

pub remade_array-remade_spliced-requires : goal.remade_array-remade_spliced-requires
remade_array-remade_spliced-requires t c =
    let o = c.args.terms.now in
    let p = c.in-Splice.ensures in
    let e = p.0 o (keeps_itself o) in
    let r = c.requires.known in
    let d = c.decreases in
    (omega (arith, d, p.1, p.2), (subst IsTypedArray e c.requires.array, (r.0, r.1, subst (FitsArray r.0) e r.2)))

pub remade_array-returns-in-Splice-clause-makes : goal.remade_array-returns-in-Splice-clause-makes
remade_array-returns-in-Splice-clause-makes t c by k f =
    let o = c.args.terms.now in
    let p = c.in-Splice in
    made_array_as by o _ _ c.args.array (λ last. splice (id_array last p.of) (id_array last p.below) (id_term last p.at)) p.ensures.0 (c.remade_spliced.ensures.makes by k (subst (FitsArray by) (p.ensures.0 o (keeps_itself o)) f))

-- ---- what is known

pub replaced_array-returns-in-Some-clause-makes : goal.replaced_array-returns-in-Some-clause-makes
replaced_array-returns-in-Some-clause-makes t c by k f =
    known_array_makes by c.args.terms.now c.args.array (record { number = c.in-Some.number }) (k.arrays c.args.array.number c.in-Some.number (sym c.in-Some.ensures)) f

pub replaced_array-returns-in-Ok-put-clause-known : goal.replaced_array-returns-in-Ok-put-clause-known
replaced_array-returns-in-Ok-put-clause-known t c by k =
    let o = c.args.terms.now in
    let l = c.remade_array.new.terms in
    let r = c.requires.known in
    knows_array l by c.remade_array.new.known (record { terms = c.remade_array.new.known.terms; arrays = c.put.new.self }) c.args.array.number c.in-Ok.id.number (c.in-Ok.ensures.known by k) refl c.in-Ok-put.ensures.put
    (made_array_stands by o l c.args.array c.in-Ok.id (c.in-Ok.ensures.makes r.0 r.1 r.2).kept c.requires.array c.in-Ok.ensures.array.typed (c.in-Ok.ensures.makes by k))

pub replaced_array-returns-in-Err-put-clause-makes : goal.replaced_array-returns-in-Err-put-clause-makes
replaced_array-returns-in-Err-put-clause-makes t c by k f = makes_none _ (λ last. refl) (c.in-Ok.ensures.makes by k f)
