use Rattle.std.proofs.Common.{refl, ap, sym, ◌∙◌, subst, arith}
use Rattle.term_tree.specs.Terms.{one, two, three, sel, IsTyped, IsIndex}
use Rattle.term_make.specs.Making.{just}
use Rattle.term_replace.specs.Replacing.{substitute, Fits}
use Rattle.term_arena.specs.Answers.{id_term}
use Rattle.term_arena.proofs.MeaningLemmas.{keeps_itself, keeps_trans}
use Rattle.term_arena.proofs.MakesLemmas.{reaches_start, reaches_step, reaches_stop, reaches_end, makes_stop, makes_none, on_any}
use Rattle.term_arena.proofs.StayLemmas.{typed_stays, index_stays, one_stays, two_stays, three_stays}
use Rattle.term_arena.proofs.AnswerLemmas.{makes_it}
use Rattle.arena_replace.proofs.KnownLemmas.{knows_keeps, knows_term, not_replaced}
use Rattle.arena_replace.proofs.SubstituteLemmas.{made_part, owes_one, owes_two, owes_three, one_makes, two_makes, three_makes, sel_makes, fits_stays, known_makes, same_makes, made_stands, made_as}
use Rattle.arena_replace.proofs.replacing.+replacing.Goals as goal

-- ---- two arguments

pub remade_two-returns-in-Err-clause-makes : goal.remade_two-returns-in-Err-clause-makes
remade_two-returns-in-Err-clause-makes t c by k f =
    two_makes by c.args.terms.now _ _ c.args.op c.args.a c.args.b (makes_stop _ (c.in-Err.ensures.makes by k f.0))

pub remade_two-replaced-requires-2 : goal.remade_two-replaced-requires-2
remade_two-replaced-requires-2 t c =
    let o = c.args.terms.now in
    let r = c.requires.known in
    let m = c.in-Ok.ensures.makes r.0 r.1 r.2.0 in
    let d = c.decreases in
    (omega (arith, d), (typed_stays o _ m.kept c.args.b c.requires.typed.2, (r.0, c.in-Ok.ensures.known r.0 r.1, fits_stays r.0 o _ m.kept c.args.b c.requires.typed.2 r.2.1)))

pub remade_two-returns-in-Err-replaced-clause-makes : goal.remade_two-returns-in-Err-replaced-clause-makes
remade_two-returns-in-Err-replaced-clause-makes t c by k f =
    let o = c.args.terms.now in
    let m = c.in-Ok.ensures.makes by k f.0 in
    let g = fits_stays by o _ m.kept c.args.b c.requires.typed.2 f.1 in
    two_makes by o _ _ c.args.op c.args.a c.args.b (reaches_stop _ (reaches_step _ reaches_start m) (c.in-Err-replaced.ensures.makes by (c.in-Ok.ensures.known by k) g))

pub remade_two-make-requires : goal.remade_two-make-requires
remade_two-make-requires t c =
    let o = c.args.terms.now in
    let n = c.replaced-2.new.terms in
    let r = c.requires.known in
    let m = c.in-Ok.ensures.makes r.0 r.1 r.2.0 in
    let g = fits_stays r.0 o _ m.kept c.args.b c.requires.typed.2 r.2.1 in
    let s = c.in-Ok-replaced.ensures.makes r.0 (c.in-Ok.ensures.known r.0 r.1) g in
    let k = keeps_trans o _ n m.kept s.kept in
    record {
      typed =
          owes_two r.0 r.1.typed c.args.op (id_term n c.args.a) (id_term n c.args.b) (id_term n c.in-Ok.x) (id_term n c.in-Ok-replaced.y)
          (fits_stays r.0 o n k c.args.a c.requires.typed.1 r.2.0, fits_stays r.0 o n k c.args.b c.requires.typed.2 r.2.1)
          (subst IsTyped (sym (two_stays o n k c.args.op c.args.a c.args.b c.requires.typed.1 c.requires.typed.2)) c.requires.typed)
          (makes_it o _ id_term c.in-Ok.x (λ last. substitute r.0 (id_term last c.args.a)) m n s.kept)
          (makes_it _ n id_term c.in-Ok-replaced.y (λ last. substitute r.0 (id_term last c.args.b)) s n (keeps_itself n));
    }

pub remade_two-returns-in-Ok-replaced-clause-makes : goal.remade_two-returns-in-Ok-replaced-clause-makes
remade_two-returns-in-Ok-replaced-clause-makes t c by k f =
    let o = c.args.terms.now in
    let m = c.in-Ok.ensures.makes by k f.0 in
    let g = fits_stays by o _ m.kept c.args.b c.requires.typed.2 f.1 in
    let s = c.in-Ok-replaced.ensures.makes by (c.in-Ok.ensures.known by k) g in
    two_makes by o _ _ c.args.op c.args.a c.args.b (reaches_end (reaches_step _ (reaches_step _ reaches_start m) s) c.make.ensures.makes)

pub remade_two-returns-in-Ok-replaced-clause-known : goal.remade_two-returns-in-Ok-replaced-clause-known
remade_two-returns-in-Ok-replaced-clause-known t c =
    on_any c.make.result _ (λ by k. knows_keeps c.replaced-2.new.terms c.make.new.terms by c.make.ensures.makes.kept c.replaced-2.new.known (c.in-Ok-replaced.ensures.known by (c.in-Ok.ensures.known by k)))

-- ---- three arguments

pub remade_three-returns-in-Err-clause-makes : goal.remade_three-returns-in-Err-clause-makes
remade_three-returns-in-Err-clause-makes t c by k f =
    let op = c.args.op in
    three_makes by c.args.terms.now _ _ op c.args.a c.args.b c.args.c (makes_stop _ (c.in-Err.ensures.makes by k f.0))

pub remade_three-replaced-requires-2 : goal.remade_three-replaced-requires-2
remade_three-replaced-requires-2 t c =
    let o = c.args.terms.now in
    let r = c.requires.known in
    let m = c.in-Ok.ensures.makes r.0 r.1 r.2.0 in
    let d = c.decreases in
    (omega (arith, d), (typed_stays o _ m.kept c.args.b c.requires.typed.2, (r.0, c.in-Ok.ensures.known r.0 r.1, fits_stays r.0 o _ m.kept c.args.b c.requires.typed.2 r.2.1)))

pub remade_three-returns-in-Err-replaced-clause-makes : goal.remade_three-returns-in-Err-replaced-clause-makes
remade_three-returns-in-Err-replaced-clause-makes t c by k f =
    let o = c.args.terms.now in
    let op = c.args.op in
    let m = c.in-Ok.ensures.makes by k f.0 in
    let g = fits_stays by o _ m.kept c.args.b c.requires.typed.2 f.1 in
    three_makes by o _ _ op c.args.a c.args.b c.args.c (reaches_stop _ (reaches_step _ reaches_start m) (c.in-Err-replaced.ensures.makes by (c.in-Ok.ensures.known by k) g))

pub remade_three-replaced-requires-3 : goal.remade_three-replaced-requires-3
remade_three-replaced-requires-3 t c =
    let o = c.args.terms.now in
    let r = c.requires.known in
    let m = c.in-Ok.ensures.makes r.0 r.1 r.2.0 in
    let s = c.in-Ok-replaced.ensures.makes r.0 (c.in-Ok.ensures.known r.0 r.1) (fits_stays r.0 o _ m.kept c.args.b c.requires.typed.2 r.2.1) in
    let k = keeps_trans o _ _ m.kept s.kept in
    let d = c.decreases in
    (omega (arith, d), (typed_stays o _ k c.args.c c.requires.typed.3, (r.0, c.in-Ok-replaced.ensures.known r.0 (c.in-Ok.ensures.known r.0 r.1), fits_stays r.0 o _ k c.args.c c.requires.typed.3 r.2.2)))

pub remade_three-returns-in-Err-replaced-2-clause-makes : goal.remade_three-returns-in-Err-replaced-2-clause-makes
remade_three-returns-in-Err-replaced-2-clause-makes t c by k f =
    let o = c.args.terms.now in
    let op = c.args.op in
    let m = c.in-Ok.ensures.makes by k f.0 in
    let more = c.in-Ok.ensures.known by k in
    let s = c.in-Ok-replaced.ensures.makes by more (fits_stays by o _ m.kept c.args.b c.requires.typed.2 f.1) in
    let g = fits_stays by o _ (keeps_trans o _ _ m.kept s.kept) c.args.c c.requires.typed.3 f.2 in
    three_makes by o _ _ op c.args.a c.args.b c.args.c (reaches_stop _ (reaches_step _ (reaches_step _ reaches_start m) s) (c.in-Err-replaced-2.ensures.makes by (c.in-Ok-replaced.ensures.known by more) g))

pub remade_three-make-requires : goal.remade_three-make-requires
remade_three-make-requires t c =
    let o = c.args.terms.now in
    let n = c.replaced-3.new.terms in
    let r = c.requires.known in
    let h = c.requires.typed in
    let more = c.in-Ok.ensures.known r.0 r.1 in
    let m = c.in-Ok.ensures.makes r.0 r.1 r.2.0 in
    let s = c.in-Ok-replaced.ensures.makes r.0 more (fits_stays r.0 o _ m.kept c.args.b h.2 r.2.1) in
    let j = keeps_trans o _ _ m.kept s.kept in
    let u = c.in-Ok-replaced-2.ensures.makes r.0 (c.in-Ok-replaced.ensures.known r.0 more) (fits_stays r.0 o _ j c.args.c h.3 r.2.2) in
    let k = keeps_trans o _ n j u.kept in
    record {
      typed =
          owes_three r.0 r.1.typed c.args.op (id_term n c.args.a) (id_term n c.args.b) (id_term n c.args.c) (id_term n c.in-Ok.x) (id_term n c.in-Ok-replaced.y) (id_term n c.in-Ok-replaced-2.z)
          (fits_stays r.0 o n k c.args.a h.1 r.2.0, fits_stays r.0 o n k c.args.b h.2 r.2.1, fits_stays r.0 o n k c.args.c h.3 r.2.2)
          (subst IsTyped (sym (three_stays o n k c.args.op c.args.a c.args.b c.args.c h.1 h.2 h.3)) h)
          (makes_it o _ id_term c.in-Ok.x (λ last. substitute r.0 (id_term last c.args.a)) m n (keeps_trans _ _ n s.kept u.kept))
          (makes_it _ _ id_term c.in-Ok-replaced.y (λ last. substitute r.0 (id_term last c.args.b)) s n u.kept)
          (makes_it _ n id_term c.in-Ok-replaced-2.z (λ last. substitute r.0 (id_term last c.args.c)) u n (keeps_itself n));
    }

pub remade_three-returns-in-Ok-replaced-2-clause-makes : goal.remade_three-returns-in-Ok-replaced-2-clause-makes
remade_three-returns-in-Ok-replaced-2-clause-makes t c by k f =
    let o = c.args.terms.now in
    let op = c.args.op in
    let m = c.in-Ok.ensures.makes by k f.0 in
    let more = c.in-Ok.ensures.known by k in
    let s = c.in-Ok-replaced.ensures.makes by more (fits_stays by o _ m.kept c.args.b c.requires.typed.2 f.1) in
    let g = fits_stays by o _ (keeps_trans o _ _ m.kept s.kept) c.args.c c.requires.typed.3 f.2 in
    let u = c.in-Ok-replaced-2.ensures.makes by (c.in-Ok-replaced.ensures.known by more) g in
    three_makes by o _ _ op c.args.a c.args.b c.args.c (reaches_end (reaches_step _ (reaches_step _ (reaches_step _ reaches_start m) s) u) c.make.ensures.makes)

pub remade_three-returns-in-Ok-replaced-2-clause-known : goal.remade_three-returns-in-Ok-replaced-2-clause-known
remade_three-returns-in-Ok-replaced-2-clause-known t c =
    on_any c.make.result _ (λ by k. knows_keeps c.replaced-3.new.terms c.make.new.terms by c.make.ensures.makes.kept c.replaced-3.new.known (c.in-Ok-replaced-2.ensures.known by (c.in-Ok-replaced.ensures.known by (c.in-Ok.ensures.known by k))))

-- ---- the top of a term

pub remade-returns-in-Literal-clause-makes : goal.remade-returns-in-Literal-clause-makes
remade-returns-in-Literal-clause-makes t c by k f =
    let e = c.in-Literal.ensures.1 in
    same_makes by c.args.terms.now c.args.term c.requires.term (ap (substitute by) e ∙ ap just (sym e))

pub remade-returns-in-Variable-clause-makes : goal.remade-returns-in-Variable-clause-makes
remade-returns-in-Variable-clause-makes t c by k f =
    let o = c.args.terms.now in
    let v = c.in-Variable.ensures in
    let e = v.2 in
    let same = not_replaced o by c.args.known.now k v.0 v.1 c.args.term.number c.laws.ensures.equal (subst IsTyped e c.requires.term) e c.requires.new (subst (Fits by) e f) in
    same_makes by o c.args.term c.requires.term (ap (substitute by) e ∙ ap just (same ∙ sym e))

pub remade-returns-in-Err-clause-makes : goal.remade-returns-in-Err-clause-makes
remade-returns-in-Err-clause-makes t c by k f =
    let o = c.args.terms.now in
    let p = c.in-One in
    let g = subst (Fits by) (p.ensures.0 o (keeps_itself o)) f in
    made_as by o _ _ c.args.term (λ last. one p.op (id_term last p.a)) p.ensures.0
    (one_makes by o _ _ p.op p.a (makes_stop _ (c.in-Err.ensures.makes by k g)))

pub remade-make-requires : goal.remade-make-requires
remade-make-requires t c =
    let o = c.args.terms.now in
    let n = c.replaced.new.terms in
    let p = c.in-One in
    let e = p.ensures.0 o (keeps_itself o) in
    let r = c.requires.known in
    let ty = subst IsTyped e c.requires.term in
    let m = c.in-Ok.ensures.makes r.0 r.1 (subst (Fits r.0) e r.2) in
    record {
      typed =
          owes_one r.0 r.1.typed p.op (id_term n p.a) (id_term n c.in-Ok.a) (fits_stays r.0 o n m.kept p.a ty.1 (subst (Fits r.0) e r.2))
          (subst IsTyped (sym (one_stays o n m.kept p.op p.a ty.1)) ty)
          (makes_it o n id_term c.in-Ok.a (λ last. substitute r.0 (id_term last p.a)) m n (keeps_itself n));
    }

pub remade-returns-in-Ok-clause-makes : goal.remade-returns-in-Ok-clause-makes
remade-returns-in-Ok-clause-makes t c by k f =
    let o = c.args.terms.now in
    let p = c.in-One in
    let g = subst (Fits by) (p.ensures.0 o (keeps_itself o)) f in
    made_as by o _ _ c.args.term (λ last. one p.op (id_term last p.a)) p.ensures.0
    (one_makes by o _ _ p.op p.a (reaches_end (reaches_step _ reaches_start (c.in-Ok.ensures.makes by k g)) c.make.ensures.makes))

pub remade-returns-in-Ok-clause-known : goal.remade-returns-in-Ok-clause-known
remade-returns-in-Ok-clause-known t c =
    on_any c.make.result _ (λ by k. knows_keeps c.replaced.new.terms c.make.new.terms by c.make.ensures.makes.kept c.replaced.new.known (c.in-Ok.ensures.known by k))

pub remade-remade_two-requires : goal.remade-remade_two-requires
remade-remade_two-requires t c =
    let o = c.args.terms.now in
    let p = c.in-Two.ensures in
    let e = p.0 o (keeps_itself o) in
    let r = c.requires.known in
    let d = c.decreases in
    (omega (arith, d, p.1, p.2), (subst IsTyped e c.requires.term, (r.0, r.1, subst (Fits r.0) e r.2)))

pub remade-returns-in-Two-clause-makes : goal.remade-returns-in-Two-clause-makes
remade-returns-in-Two-clause-makes t c by k f =
    let o = c.args.terms.now in
    let p = c.in-Two in
    made_as by o _ _ c.args.term (λ last. two p.op (id_term last p.a) (id_term last p.b)) p.ensures.0 (c.remade_two.ensures.makes by k (subst (Fits by) (p.ensures.0 o (keeps_itself o)) f))

pub remade-remade_three-requires : goal.remade-remade_three-requires
remade-remade_three-requires t c =
    let o = c.args.terms.now in
    let p = c.in-Three.ensures in
    let e = p.0 o (keeps_itself o) in
    let r = c.requires.known in
    let d = c.decreases in
    (omega (arith, d, p.1, p.2, p.3), (subst IsTyped e c.requires.term, (r.0, r.1, subst (Fits r.0) e r.2)))

pub remade-returns-in-Three-clause-makes : goal.remade-returns-in-Three-clause-makes
remade-returns-in-Three-clause-makes t c by k f =
    let o = c.args.terms.now in
    let p = c.in-Three in
    made_as by o _ _ c.args.term (λ last. three p.op (id_term last p.a) (id_term last p.b) (id_term last p.c)) p.ensures.0 (c.remade_three.ensures.makes by k (subst (Fits by) (p.ensures.0 o (keeps_itself o)) f))

pub remade-returns-in-Err-replaced-clause-makes : goal.remade-returns-in-Err-replaced-clause-makes
remade-returns-in-Err-replaced-clause-makes t c by k f =
    let o = c.args.terms.now in
    let p = c.in-Sel in
    let g = subst (Fits by) (p.ensures.1 o (keeps_itself o)) f in
    made_as by o _ _ c.args.term (λ last. sel p.ensures.0 (id_term last p.at)) p.ensures.1
    (sel_makes by o _ _ p.ensures.0 p.at (makes_stop _ (c.in-Err-replaced.ensures.makes by k g)))

pub remade-byte_of-requires : goal.remade-byte_of-requires
remade-byte_of-requires t c =
    let o = c.args.terms.now in
    let n = c.replaced-in-Sel.new.terms in
    let p = c.in-Sel in
    let e = p.ensures.1 o (keeps_itself o) in
    let r = c.requires.known in
    let i : IsIndex (id_term o p.at) = subst IsTyped e c.requires.term in
    let g = subst (Fits r.0) e r.2 in
    let m = c.in-Ok-replaced.ensures.makes r.0 r.1 g in
    record {
      byte = typed_stays o n m.kept c.args.term c.requires.term;
      is = (p.ensures.0, id_term n p.at, p.ensures.1 n m.kept);
      index =
          made_part r.0 r.1.typed (id_term n p.at) (id_term n c.in-Ok-replaced.at) 64 (fits_stays r.0 o n m.kept p.at i.1 g) (index_stays o n m.kept p.at i)
          (makes_it o n id_term c.in-Ok-replaced.at (λ last. substitute r.0 (id_term last p.at)) m n (keeps_itself n));
      known = (r.0, c.in-Ok-replaced.ensures.known r.0 r.1);
    }

pub remade-returns-in-Ok-replaced-clause-makes : goal.remade-returns-in-Ok-replaced-clause-makes
remade-returns-in-Ok-replaced-clause-makes t c by k f =
    let o = c.args.terms.now in
    let n = c.replaced-in-Sel.new.terms in
    let p = c.in-Sel in
    let m = c.in-Ok-replaced.ensures.makes by k (subst (Fits by) (p.ensures.1 o (keeps_itself o)) f) in
    made_as by o _ _ c.args.term (λ last. sel p.ensures.0 (id_term last p.at)) p.ensures.1
    (sel_makes by o _ _ p.ensures.0 p.at (reaches_end (reaches_step _ reaches_start m) (c.byte_of.ensures.makes by p.ensures.0 (id_term n p.at) (c.in-Ok-replaced.ensures.known by k) (p.ensures.1 n m.kept))))

pub remade-returns-in-Ok-replaced-clause-known : goal.remade-returns-in-Ok-replaced-clause-known
remade-returns-in-Ok-replaced-clause-known t c =
    let o = c.args.terms.now in
    let n = c.replaced-in-Sel.new.terms in
    let p = c.in-Sel in
    let r = c.requires.known in
    let m = c.in-Ok-replaced.ensures.makes r.0 r.1 (subst (Fits r.0) (p.ensures.1 o (keeps_itself o)) r.2) in
    let b = c.byte_of.ensures.makes r.0 p.ensures.0 (id_term n p.at) (c.in-Ok-replaced.ensures.known r.0 r.1) (p.ensures.1 n m.kept) in
    on_any c.byte_of.result _ (λ by k. knows_keeps n c.byte_of.new.terms by b.kept c.replaced-in-Sel.new.known (c.in-Ok-replaced.ensures.known by k))

-- ---- what is known

pub replaced-returns-in-Some-clause-makes : goal.replaced-returns-in-Some-clause-makes
replaced-returns-in-Some-clause-makes t c by k f =
    known_makes by c.args.terms.now c.args.term (record { number = c.in-Some.number }) (k.terms c.args.term.number c.in-Some.number (sym c.in-Some.ensures)) f

pub replaced-returns-in-Ok-put-clause-known : goal.replaced-returns-in-Ok-put-clause-known
replaced-returns-in-Ok-put-clause-known t c by k =
    let o = c.args.terms.now in
    let l = c.remade.new.terms in
    let r = c.requires.known in
    knows_term l by c.remade.new.known (record { terms = c.put.new.self; arrays = c.remade.new.known.arrays }) c.args.term.number c.in-Ok.id.number (c.in-Ok.ensures.known by k) refl c.in-Ok-put.ensures.put
    (made_stands by o l c.args.term c.in-Ok.id (c.in-Ok.ensures.makes r.0 r.1 r.2).kept c.requires.term c.in-Ok.ensures.term.typed (c.in-Ok.ensures.makes by k))

pub replaced-returns-in-Err-put-clause-makes : goal.replaced-returns-in-Err-put-clause-makes
replaced-returns-in-Err-put-clause-makes t c by k f = makes_none _ (λ last. refl) (c.in-Ok.ensures.makes by k f)
