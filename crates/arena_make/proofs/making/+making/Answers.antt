use Rattle.std.proofs.Common.{◌+◌, ◌*◌, ◌<◌, map, ap, sym, ◌∙◌, subst, arith}
use Rattle.std.specs.Prelude.{◌≡◌, List}
use Rattle.bv_bits.specs.declared.Op.TheVariants.{Add}
use Rattle.term_tree.specs.Terms.{Tree, lit, two, IsTyped, applied}
use Rattle.term_rules.specs.declared.rules.Right as code
use Rattle.term_rules.specs.declared.rules.Right.TheVariants as right
use Rattle.term_rules.specs.Rules.{given, made_two}
use Rattle.term_rules.specs.Shapes.{right_of}
use Rattle.term_rules.specs.Laws.{IsTypedRight}
use Rattle.term_make.specs.Making as spec
use Rattle.term_make.proofs.SizeLemmas.{work}
use Rattle.term_arena.specs.declared.node.TermId.{TermId}
use Rattle.term_arena.specs.Nodes.{Node}
use Rattle.term_arena.specs.Answers.{id_term}
use Rattle.term_arena.proofs.MeaningLemmas.{keeps_itself, keeps_trans}
use Rattle.arena_make.proofs.WorkLemmas.{right_less, right_is_typed}
use Rattle.term_arena.proofs.MakesLemmas.{reaches_start, reaches_step, reaches_stop, reaches_end, makes_stop}
use Rattle.term_arena.proofs.StayLemmas.{term_fine}
use Rattle.term_arena.proofs.AnswerLemmas.{answer_is, makes_it}
use Rattle.arena_make.proofs.MakingLemmas.{make_ruled, make_unruled, make_wide, makes_named, right_as, named_then, one_named, two_named, owes_two, owes_sum}
use Rattle.arena_make.proofs.making.+making.Goals as goal

pub make-build-requires : goal.make-build-requires
make-build-requires t c =
    let d = c.decreases in
    let e = sym c.in-Some.ensures.value in
    let l = right_less (applied c.args.op (map (id_term c.args.terms.now) c.args.args.now)) (right_of (id_term c.args.terms.now) c.in-Some.right) e in
    (omega (arith, d, l), right_is_typed (applied c.args.op (map (id_term c.args.terms.now) c.args.args.now)) (right_of (id_term c.args.terms.now) c.in-Some.right) c.requires.typed e)

pub make-returns-in-Some-clause-makes : goal.make-returns-in-Some-clause-makes
make-returns-in-Some-clause-makes t c =
    let m = c.build.ensures.makes in
    make_ruled c.args.terms.now c.build.new.terms m.kept c.laws.ensures.arena c.args.op c.args.args.now c.requires.typed c.build.result c.in-Some.right (sym c.in-Some.ensures.value) m

pub make-returns-in-Some-clause-wide : goal.make-returns-in-Some-clause-wide
make-returns-in-Some-clause-wide t c =
    make_wide c.args.terms.now c.build.new.terms c.build.ensures.makes.kept c.laws.ensures.arena c.args.op c.args.args.now c.requires.typed c.build.result (make-returns-in-Some-clause-makes t c)

pub make-returns-in-None-clause-makes : goal.make-returns-in-None-clause-makes
make-returns-in-None-clause-makes t c =
    let m = c.plain.ensures.makes in
    make_unruled c.args.terms.now c.plain.new.terms m.kept c.laws.ensures.arena c.args.op c.args.args.now c.requires.typed c.plain.result (sym c.in-None.ensures.value) m

pub make-returns-in-None-clause-wide : goal.make-returns-in-None-clause-wide
make-returns-in-None-clause-wide t c =
    make_wide c.args.terms.now c.plain.new.terms c.plain.ensures.makes.kept c.laws.ensures.arena c.args.op c.args.args.now c.requires.typed c.plain.result (make-returns-in-None-clause-makes t c)

-- what is typed of the right side that there is
typed_as : (nodes : List Node) (r q : code.Right TermId) → r ≡ q → IsTypedRight (right_of (id_term nodes) r) → IsTypedRight (right_of (id_term nodes) q)
typed_as nodes r q e h = subst (λ (x : code.Right TermId). IsTypedRight (right_of (id_term nodes) x)) e h

pub build-returns-in-Given-clause-makes : goal.build-returns-in-Given-clause-makes
build-returns-in-Given-clause-makes t c =
    let o = c.args.terms.now in
    let q = right.Given c.in-Given.id in
    right_as o o _ c.args.right q c.in-Given.is (makes_named o c.in-Given.id c.laws.ensures.arena (typed_as o c.args.right q c.in-Given.is c.requires.typed))

pub build-returns-in-Given-clause-term : goal.build-returns-in-Given-clause-term
build-returns-in-Given-clause-term t c =
    term_fine c.args.terms.now c.in-Given.id.number c.laws.ensures.arena (typed_as c.args.terms.now c.args.right (right.Given c.in-Given.id) c.in-Given.is c.requires.typed)

pub build-returns-in-Literal-clause-makes : goal.build-returns-in-Literal-clause-makes
build-returns-in-Literal-clause-makes t c =
    right_as c.args.terms.now c.add_term.new.self c.add_term.result c.args.right (right.Literal c.in-Literal.b) c.in-Literal.is c.add_term.ensures.makes

pub build-returns-in-One-clause-makes : goal.build-returns-in-One-clause-makes
build-returns-in-One-clause-makes t c =
    let o = c.args.terms.now in
    let q = right.One c.in-One.op c.in-One.a in
    let h = typed_as o c.args.right q c.in-One.is c.requires.typed in
    right_as o c.make.new.terms c.make.result c.args.right q c.in-One.is (one_named o c.make.new.terms c.laws.ensures.arena c.make.result c.in-One.op c.in-One.a h.1 c.make.ensures.makes)

pub build-returns-in-Two-clause-makes : goal.build-returns-in-Two-clause-makes
build-returns-in-Two-clause-makes t c =
    let o = c.args.terms.now in
    let q = right.Two c.in-Two.op c.in-Two.a c.in-Two.b in
    let h = typed_as o c.args.right q c.in-Two.is c.requires.typed in
    right_as o c.make-in-Two.new.terms c.make-in-Two.result c.args.right q c.in-Two.is (two_named o c.make-in-Two.new.terms c.laws.ensures.arena c.make-in-Two.result c.in-Two.op c.in-Two.a c.in-Two.b h.1 h.2 c.make-in-Two.ensures.makes)

-- ---- a term and a literal

pub build-returns-in-Err-clause-makes : goal.build-returns-in-Err-clause-makes
build-returns-in-Err-clause-makes t c =
    let o = c.args.terms.now in
    let op = c.in-WithLiteral.op in
    let a = c.in-WithLiteral.a in
    let l = c.in-WithLiteral.c in
    let q = right.WithLiteral op a l in
    let h = typed_as o c.args.right q c.in-WithLiteral.is c.requires.typed in
    right_as o _ _ c.args.right q c.in-WithLiteral.is (named_then o _ c.laws.ensures.arena id_term _ a h.1 _ (makes_stop _ c.in-Err.ensures.makes))

pub build-make-requires-in-Ok : goal.build-make-requires-in-Ok
build-make-requires-in-Ok t c =
    let o = c.args.terms.now in
    let n = c.add_term-in-WithLiteral.new.self in
    let k = c.in-Ok.ensures.makes.kept in
    let e = answer_is (lit c.in-WithLiteral.c) (id_term n c.in-Ok.c) (c.in-Ok.ensures.makes.tells n (keeps_itself n)).0 in
    let r : right_of (id_term n) c.args.right ≡ made_two c.in-WithLiteral.op (given (id_term n c.in-WithLiteral.a)) (given (id_term n c.in-Ok.c)) =
    ap (right_of (id_term n)) c.in-WithLiteral.is ∙ ap (λ (y : Tree). made_two c.in-WithLiteral.op (given (id_term n c.in-WithLiteral.a)) (given y)) e in
    owes_two o n k t c.args.right c.in-WithLiteral.op (id_term n c.in-WithLiteral.a) (id_term n c.in-Ok.c) c.requires.typed (sym c.decreases) r

pub build-returns-in-Ok-clause-makes : goal.build-returns-in-Ok-clause-makes
build-returns-in-Ok-clause-makes t c =
    let o = c.args.terms.now in
    let op = c.in-WithLiteral.op in
    let a = c.in-WithLiteral.a in
    let l = c.in-WithLiteral.c in
    let q = right.WithLiteral op a l in
    let h = typed_as o c.args.right q c.in-WithLiteral.is c.requires.typed in
    right_as o _ _ c.args.right q c.in-WithLiteral.is (named_then o _ c.laws.ensures.arena id_term _ a h.1 _ (reaches_end (reaches_step _ reaches_start c.in-Ok.ensures.makes) c.make-in-Ok.ensures.makes))

-- ---- a sum and a literal

pub build-returns-in-Err-make-clause-makes : goal.build-returns-in-Err-make-clause-makes
build-returns-in-Err-make-clause-makes t c =
    let o = c.args.terms.now in
    let p = c.in-PlusLiteral in
    let q = right.PlusLiteral p.op p.a p.b p.c in
    let h = typed_as o c.args.right q p.is c.requires.typed in
    right_as o _ _ c.args.right q p.is (makes_stop _
    (two_named o _ c.laws.ensures.arena _ p.op p.a p.b h.1.1 h.1.2 c.in-Err-make.ensures.makes))

pub build-returns-in-Err-add_term-clause-makes : goal.build-returns-in-Err-add_term-clause-makes
build-returns-in-Err-add_term-clause-makes t c =
    let o = c.args.terms.now in
    let p = c.in-PlusLiteral in
    let q = right.PlusLiteral p.op p.a p.b p.c in
    let h = typed_as o c.args.right q p.is c.requires.typed in
    right_as o _ _ c.args.right q p.is (reaches_stop _ (reaches_step _ reaches_start
    (two_named o _ c.laws.ensures.arena _ p.op p.a p.b h.1.1 h.1.2 c.in-Ok-make.ensures.makes)) c.in-Err-add_term.ensures.makes)

pub build-make-requires-in-Ok-add_term : goal.build-make-requires-in-Ok-add_term
build-make-requires-in-Ok-add_term t c =
    let o = c.args.terms.now in
    let m = c.make-in-PlusLiteral.new.terms in
    let n = c.add_term-in-Ok-make.new.self in
    let p = c.in-PlusLiteral in
    let s = c.in-Ok-make.sum in
    let k = c.in-Ok-add_term.ensures.makes.kept in
    let e = answer_is (lit p.c) (id_term n c.in-Ok-add_term.c) (c.in-Ok-add_term.ensures.makes.tells n (keeps_itself n)).0 in
    let i = makes_it o m id_term s (λ last. spec.make (two p.op (id_term last p.a) (id_term last p.b))) c.in-Ok-make.ensures.makes n k in
    let w = owes_sum o n (keeps_trans o m n c.in-Ok-make.ensures.makes.kept k) t c.args.right p.op (id_term n p.a) (id_term n p.b) (id_term n s) p.c c.requires.typed (sym c.decreases) (ap (right_of (id_term n)) p.is) i in
    subst (λ (y : Tree). (2 * work (two Add (id_term n s) y) + 1 < t) × IsTyped (two Add (id_term n s) y)) e w

pub build-returns-in-Ok-add_term-clause-makes : goal.build-returns-in-Ok-add_term-clause-makes
build-returns-in-Ok-add_term-clause-makes t c =
    let o = c.args.terms.now in
    let p = c.in-PlusLiteral in
    let q = right.PlusLiteral p.op p.a p.b p.c in
    let h = typed_as o c.args.right q p.is c.requires.typed in
    right_as o _ _ c.args.right q p.is (reaches_end (reaches_step _ (reaches_step _ reaches_start
    (two_named o _ c.laws.ensures.arena _ p.op p.a p.b h.1.1 h.1.2 c.in-Ok-make.ensures.makes)) c.in-Ok-add_term.ensures.makes) c.make-in-Ok-add_term.ensures.makes)
