-- What the calls that make terms owe each other, and what they answer.
use Rattle.std.proofs.Common.{◌≡◌, ℕ, ◌+◌, ◌*◌, ◌<◌, List, [], ◌∷◌, map, Some, None, refl, ap, sym, ◌∙◌, subst, arith}
use Rattle.std.specs.Prelude.{Result, Ok, Err, IfOk}
use Rattle.bv_bits.specs.declared.Bits.{Bits}
use Rattle.bv_bits.specs.declared.Op.{Op}
use Rattle.bv_bits.specs.declared.Op.TheVariants.{Add}
use Rattle.term_tree.specs.declared.term.TermFault.{TermFault}
use Rattle.term_rules.specs.declared.rules.Right as code
use Rattle.term_tree.specs.Terms.{Tree, lit, one, two, IsTyped, width_of, applied}
use Rattle.term_rules.specs.Rules.{given, made_one, made_two, rule_of}
use Rattle.term_rules.specs.Shapes.{right_of}
use Rattle.term_make.specs.Making.{Made, make}
use Rattle.term_rules.specs.Laws.{IsTypedRight}
use Rattle.term_make.proofs.SizeLemmas.{work}
use Rattle.term_make.proofs.TypedLemmas.{make_typed, make_width, two_typed}
use Rattle.term_arena.specs.declared.node.TermId.{TermId}
use Rattle.term_arena.specs.Nodes.{Node, of_term, Keeps}
use Rattle.term_arena.specs.Arena.{IsArena}
use Rattle.term_arena.specs.Answers.{id_term}
use Rattle.term_arena.specs.Said.{Answer, Answers, Said, said_of, said_then, said_right, single}
use Rattle.term_arena.specs.Built.{arguments_of}
use Rattle.term_arena.specs.Makes.{AreLow, Makes}
use Rattle.term_arena.proofs.MeaningLemmas.{keeps_itself, keeps_trans}
use Rattle.term_arena.proofs.AnswerLemmas.{makes_has}
use Rattle.arena_make.proofs.WorkLemmas.{right_work, right_is_typed}
use Rattle.term_arena.proofs.MakesLemmas.{makes_here, reaches_start, reaches_step, reaches_end}
use Rattle.term_arena.proofs.CoverLemmas.{makes_more}
use Rattle.arena_make.proofs.RightLemmas.{covers_ruled, covers_unruled}
use Rattle.term_arena.proofs.StayLemmas.{one_low, arguments_low, term_stays, applied_stays, right_stays}

-- ---- applications

module _ (old new : List Node) (kept : Keeps old new) (ok : IsArena old) (op : Op) (args : List TermId) (typed : IsTyped (applied op (map (id_term old) args))) where
  abbrev over : List Node → Tree
  over last = applied op (map (id_term last) args)

  same : (last : List Node) → Keeps new last → over last ≡ over old
  same last k = applied_stays old last (keeps_trans old new last kept k) op args typed

  low : (last : List Node) → Keeps new last → AreLow (map of_term (arguments_of (over last)))
  low last k = subst (λ (t : Tree). AreLow (map of_term (arguments_of t))) (sym (same last k)) (arguments_low old op args ok typed)

  pub make_ruled : (r : Result TermId TermFault) (right : code.Right TermId) → rule_of (over old) ≡ Some (right_of (id_term old) right) → Makes old new id_term r (λ last. said_right (right_of (id_term last) right)) → Makes old new id_term r (λ last. said_of (make (over last)))
  make_ruled r right e m =
      let h = right_is_typed (over old) (right_of (id_term old) right) typed e in
      makes_more m
      (λ last k.
      let g = right_stays old last (keeps_trans old new last kept k) right h in
      covers_ruled (over last) (right_of (id_term last) right) (ap rule_of (same last k) ∙ e ∙ ap Some (sym g)) (low last k))

  pub make_unruled : (r : Result TermId TermFault) → rule_of (over old) ≡ None → Makes old new id_term r (λ last. single (over last)) → Makes old new id_term r (λ last. said_of (make (over last)))
  make_unruled r e m = makes_more m (λ last k. covers_unruled (over last) (ap rule_of (same last k) ∙ e) (low last k))

  -- it is as wide
  pub make_wide : (r : Result TermId TermFault) → Makes old new id_term r (λ last. said_of (make (over last))) → IfOk r (λ id. width_of (id_term new id) ≡ width_of (over old))
  make_wide r m =
      let e = same new (keeps_itself new) in
      makes_has (λ (t : Tree). width_of t ≡ width_of (over old)) old new id_term r (λ last. make (over last)) m
      (make_width (over new) (subst IsTyped (sym e) typed) ∙ ap width_of e)

-- ---- right sides

-- a term that is there is named
pub makes_named : (nodes : List Node) (id : TermId) → IsArena nodes → IsTyped (id_term nodes id) → Makes nodes nodes id_term (Ok id) (λ last. single (id_term last id))
makes_named nodes id ok typed =
    makes_here nodes id_term (Ok id) (λ last. single (id_term last id))
    (λ last k. (refl, subst (λ (t : Tree). AreLow (of_term t ∷ [])) (sym (term_stays nodes last k id typed)) (one_low nodes id ok typed)))

-- an operator at two terms of a right side, read over a list that grows
pub owes_two : (old new : List Node) (k : Keeps old new) (t : ℕ) (r : code.Right TermId) (op : Op) (x y : Tree) → IsTypedRight (right_of (id_term old) r) → t ≡ 2 * right_work (right_of (id_term old) r) + 2 → right_of (id_term new) r ≡ made_two op (given x) (given y) → (2 * work (two op x y) + 1 < t) × IsTyped (two op x y)
owes_two old new k t r op x y h d e =
    let s = right_stays old new k r h in
    let g : IsTypedRight (made_two op (given x) (given y)) = subst IsTypedRight (sym s ∙ e) h in
    let w = ap right_work (sym s ∙ e) in
    (omega (arith, w, d), g)

-- a literal added to one
pub owes_sum : (old new : List Node) (k : Keeps old new) (t : ℕ) (r : code.Right TermId) (op : Op) (a b s : Tree) (c : Bits) → IsTypedRight (right_of (id_term old) r) → t ≡ 2 * right_work (right_of (id_term old) r) + 2
    → right_of (id_term new) r ≡ made_two Add (made_two op (given a) (given b)) (given (lit c)) → (make (two op a b)).it ≡ s → (2 * work (two Add s (lit c)) + 1 < t) × IsTyped (two Add s (lit c))
owes_sum old new k t r op a b s c h d e i =
    let f = sym (right_stays old new k r h) ∙ e in
    let w = ap right_work f in
    let g : IsTypedRight (made_two Add (made_two op (given a) (given b)) (given (lit c))) = subst IsTypedRight f h in
    let q = ap (λ (u : Tree). work (two Add u (lit c))) i in
    let typed = two_typed Add (make (two op a b)).it (lit c) (width_of (two op a b)) c.width g.0 (make_typed (two op a b) g.1) g.2 (make_width (two op a b) g.1) refl in
    (omega (arith, w, d, q), subst (λ (u : Tree). IsTyped (two Add u (lit c))) i typed.0)

-- the right side that there is
pub right_as : (old new : List Node) (r : Result TermId TermFault) (right q : code.Right TermId) → right ≡ q → Makes old new id_term r (λ last. said_right (right_of (id_term last) q)) → Makes old new id_term r (λ last. said_right (right_of (id_term last) right))
right_as old new r right q e m = subst (λ (x : code.Right TermId). Makes old new id_term r (λ last. said_right (right_of (id_term last) x))) (sym e) m

module _ (old new : List Node) (ok : IsArena old) {T A : Type 0} (view : List Node → T → A) (r : Result T TermFault) where
  -- a term that is there is named, and then there is more
  pub named_then : (a : TermId) → IsTyped (id_term old a) → (next : List Node → Tree → Said ⊥ A) → Makes old new view r (λ last. next last (id_term last a)) → Makes old new view r (λ last. said_then (single (id_term last a)) (next last))
  named_then a typed next m = reaches_end (reaches_step next reaches_start (makes_named old a ok typed)) m

module _ (old new : List Node) (ok : IsArena old) (r : Result TermId TermFault) where
  pub one_named : (op : Op) (a : TermId) → IsTyped (id_term old a) → Makes old new id_term r (λ last. said_of (make (one op (id_term last a)))) → Makes old new id_term r (λ last. said_right (made_one op (given (id_term last a))))
  one_named op a h m = named_then old new ok id_term r a h (λ last x. said_of (make (one op x))) m

  pub two_named : (op : Op) (a b : TermId) → IsTyped (id_term old a) → IsTyped (id_term old b) → Makes old new id_term r (λ last. said_of (make (two op (id_term last a) (id_term last b)))) → Makes old new id_term r (λ last. said_right (made_two op (given (id_term last a)) (given (id_term last b))))
  two_named op a b h g m =
      named_then old new ok id_term r a h (λ last x. said_then (single (id_term last b)) (λ y. said_of (make (two op x y))))
      (named_then old new ok id_term r b g (λ last y. said_of (make (two op (id_term last a) y))) m)
