-- What numbers stand for stays, as the list grows.
use Rattle.std.proofs.Common.{◌≡◌, ℕ, ◌<◌, List, [], ◌∷◌, length, map, refl, ap, sym, ◌∙◌, subst, arith}
use Rattle.bv_bits.specs.declared.Op.{Op}
use Rattle.bv_bits.specs.declared.Op.TheVariants.{Add}
use Rattle.term_rules.specs.declared.rules.Right as code
use Rattle.term_rules.specs.declared.rules.Right.TheVariants as right
use Rattle.term_tree.specs.Terms.{Text, Tree, applied, one, two, three, sel, ArrayTree, upd, splice, IsTyped, IsTypedArray, IsIndex, IsTerm, IsArrayTerm, blank, width_of}
use Rattle.term_rules.specs.Rules.{Right, given, made_one, made_two}
use Rattle.term_rules.specs.Shapes.{right_of}
use Rattle.term_rules.specs.Laws.{IsTypedRight}
use Rattle.term_arena.specs.declared.node.TermId.{TermId}
use Rattle.term_arena.specs.declared.node.ArrayId.{ArrayId}
use Rattle.term_arena.specs.Nodes.{Node, of_term, meanings_of, meaning_at, term_at, array_at, Keeps}
use Rattle.term_arena.specs.Arena.{IsArena, IsFine}
use Rattle.term_arena.specs.Answers.{id_term, id_array}
use Rattle.term_arena.specs.Built.{arguments_of}
use Rattle.term_arena.specs.Makes.{AreLow}
use Rattle.term_arena.proofs.MeaningLemmas.{term_within, array_within, meanings_of-length, term_is, array_is, keeps_term, keeps_array}
use Rattle.term_arena.proofs.MakesLemmas.{low_none, low_one, low_both}

-- ---- typed ones are not too high

pub term_fine : (nodes : List Node) (i : ℕ) → IsArena nodes → IsTyped (term_at nodes i) → IsTerm (term_at nodes i)
term_fine nodes i h t =
    let lt : i < length (meanings_of nodes) = omega (arith, term_within nodes i t, meanings_of-length nodes) in
    subst IsFine (term_is (meaning_at nodes i) t) (h.fine i (of_term blank) lt)

pub array_fine : (nodes : List Node) (i : ℕ) → IsArena nodes → IsTypedArray (array_at nodes i) → IsArrayTerm (array_at nodes i)
array_fine nodes i h t =
    let lt : i < length (meanings_of nodes) = omega (arith, array_within nodes i t, meanings_of-length nodes) in
    subst IsFine (array_is (meaning_at nodes i) t) (h.fine i (of_term blank) lt)

pub one_low : (nodes : List Node) (id : TermId) → IsArena nodes → IsTyped (id_term nodes id) → AreLow (of_term (id_term nodes id) ∷ [])
one_low nodes id h t = low_one (of_term (id_term nodes id)) (term_fine nodes id.number h t).low

pub arguments_low : (nodes : List Node) (op : Op) (args : List TermId) → IsArena nodes → IsTyped (applied op (map (id_term nodes) args)) → AreLow (map of_term (arguments_of (applied op (map (id_term nodes) args))))
arguments_low nodes op [] h t = low_none
arguments_low nodes op (a ∷ []) h t = one_low nodes a h t.1
arguments_low nodes op (a ∷ b ∷ []) h t = low_both (of_term (id_term nodes a) ∷ []) (of_term (id_term nodes b) ∷ []) (one_low nodes a h t.1) (one_low nodes b h t.2)
arguments_low nodes op (a ∷ b ∷ c ∷ []) h t =
    low_both (of_term (id_term nodes a) ∷ []) (of_term (id_term nodes b) ∷ of_term (id_term nodes c) ∷ []) (one_low nodes a h t.1)
    (low_both (of_term (id_term nodes b) ∷ []) (of_term (id_term nodes c) ∷ []) (one_low nodes b h t.2) (one_low nodes c h t.3))
arguments_low nodes op (a ∷ b ∷ c ∷ d ∷ rest) h t = low_none

-- ---- along a list that grows

module _ (old new : List Node) (k : Keeps old new) where
  pub term_stays : (a : TermId) → IsTyped (id_term old a) → id_term new a ≡ id_term old a
  term_stays a h = keeps_term old new a.number k h

  pub array_stays : (a : ArrayId) → IsTypedArray (id_array old a) → id_array new a ≡ id_array old a
  array_stays a h = keeps_array old new a.number k h

  pub typed_stays : (a : TermId) → IsTyped (id_term old a) → IsTyped (id_term new a)
  typed_stays a h = subst IsTyped (sym (term_stays a h)) h

  pub index_stays : (a : TermId) → IsIndex (id_term old a) → IsIndex (id_term new a)
  index_stays a h = subst IsIndex (sym (term_stays a h.1)) h

  pub byte_stays : (a : TermId) → (width_of (id_term old a) ≡ 8) × IsTyped (id_term old a) → (width_of (id_term new a) ≡ 8) × IsTyped (id_term new a)
  byte_stays a h = subst (λ (t : Tree). (width_of t ≡ 8) × IsTyped t) (sym (term_stays a h.1)) h

  pub typed_array_stays : (a : ArrayId) → IsTypedArray (id_array old a) → IsTypedArray (id_array new a)
  typed_array_stays a h = subst IsTypedArray (sym (array_stays a h)) h

  pub one_stays : (op : Op) (a : TermId) → IsTyped (id_term old a) → one op (id_term new a) ≡ one op (id_term old a)
  one_stays op a h = ap (one op) (term_stays a h)

  pub two_stays : (op : Op) (a b : TermId) → IsTyped (id_term old a) → IsTyped (id_term old b) → two op (id_term new a) (id_term new b) ≡ two op (id_term old a) (id_term old b)
  two_stays op a b h g = ap (λ (t : Tree). two op t (id_term new b)) (term_stays a h) ∙ ap (two op (id_term old a)) (term_stays b g)

  pub three_stays : (op : Op) (a b c : TermId) → IsTyped (id_term old a) → IsTyped (id_term old b) → IsTyped (id_term old c) → three op (id_term new a) (id_term new b) (id_term new c) ≡ three op (id_term old a) (id_term old b) (id_term old c)
  three_stays op a b c h g f =
      ap (λ (t : Tree). three op t (id_term new b) (id_term new c)) (term_stays a h) ∙ ap (λ (t : Tree). three op (id_term old a) t (id_term new c)) (term_stays b g) ∙ ap (three op (id_term old a) (id_term old b)) (term_stays c f)

  pub upd_stays : (f : ArrayId) (i e : TermId) → IsTypedArray (upd (id_array old f) (id_term old i) (id_term old e)) → upd (id_array new f) (id_term new i) (id_term new e) ≡ upd (id_array old f) (id_term old i) (id_term old e)
  upd_stays f i e h =
      ap (λ (g : ArrayTree). upd g (id_term new i) (id_term new e)) (array_stays f h.0) ∙ ap (λ (t : Tree). upd (id_array old f) t (id_term new e)) (term_stays i h.1.1) ∙ ap (upd (id_array old f) (id_term old i)) (term_stays e h.2.1)

  pub splice_stays : (f g : ArrayId) (i : TermId) → IsTypedArray (splice (id_array old f) (id_array old g) (id_term old i)) → splice (id_array new f) (id_array new g) (id_term new i) ≡ splice (id_array old f) (id_array old g) (id_term old i)
  splice_stays f g i h =
      ap (λ (a : ArrayTree). splice a (id_array new g) (id_term new i)) (array_stays f h.0) ∙ ap (λ (a : ArrayTree). splice (id_array old f) a (id_term new i)) (array_stays g h.1) ∙ ap (splice (id_array old f) (id_array old g)) (term_stays i h.2.1)

  pub applied_stays : (op : Op) (args : List TermId) → IsTyped (applied op (map (id_term old) args)) → applied op (map (id_term new) args) ≡ applied op (map (id_term old) args)
  applied_stays op [] h = refl
  applied_stays op (a ∷ []) h = one_stays op a h.1
  applied_stays op (a ∷ b ∷ []) h = two_stays op a b h.1 h.2
  applied_stays op (a ∷ b ∷ c ∷ []) h = three_stays op a b c h.1 h.2 h.3
  applied_stays op (a ∷ b ∷ c ∷ d ∷ rest) h = refl

  two_given : (op : Op) (a b : TermId) → IsTyped (id_term old a) → IsTyped (id_term old b) → made_two op (given (id_term new a)) (given (id_term new b)) ≡ made_two op (given (id_term old a)) (given (id_term old b))
  two_given op a b h g = ap (λ (t : Tree). made_two op (given t) (given (id_term new b))) (term_stays a h) ∙ ap (λ (t : Tree). made_two op (given (id_term old a)) (given t)) (term_stays b g)

  pub right_stays : (r : code.Right TermId) → IsTypedRight (right_of (id_term old) r) → right_of (id_term new) r ≡ right_of (id_term old) r
  right_stays (right.Given i) h = ap given (term_stays i h)
  right_stays (right.Literal b) h = refl
  right_stays (right.One op a) h = ap (λ (t : Tree). made_one op (given t)) (term_stays a h.1)
  right_stays (right.Two op a b) h = two_given op a b h.1 h.2
  right_stays (right.WithLiteral op a c) h = ap (λ (t : Tree). made_two op (given t) (right_of (id_term old) (right.Literal c))) (term_stays a h.1)
  right_stays (right.PlusLiteral op a b c) h = ap (λ (r : Right). made_two Add r (right_of (id_term old) (right.Literal c))) (two_given op a b h.1.1 h.1.2)

-- ---- tops of array terms

module _ (nodes : List Node) (id : ArrayId) (typed : IsTypedArray (id_array nodes id)) where
  pub upd_top : (f : ArrayId) (i e : TermId) → id_array nodes id ≡ upd (id_array nodes f) (id_term nodes i) (id_term nodes e) → (last : List Node) → Keeps nodes last → id_array last id ≡ upd (id_array last f) (id_term last i) (id_term last e)
  upd_top f i e is last k = array_stays nodes last k id typed ∙ is ∙ sym (upd_stays nodes last k f i e (subst IsTypedArray is typed))

  pub splice_top : (f g : ArrayId) (i : TermId) → id_array nodes id ≡ splice (id_array nodes f) (id_array nodes g) (id_term nodes i) → (last : List Node) → Keeps nodes last → id_array last id ≡ splice (id_array last f) (id_array last g) (id_term last i)
  splice_top f g i is last k = array_stays nodes last k id typed ∙ is ∙ sym (splice_stays nodes last k f g i (subst IsTypedArray is typed))

-- ---- tops of terms

module _ (nodes : List Node) (n : ℕ) (typed : IsTyped (term_at nodes n)) where
  top_as : (f : List Node → Tree) → term_at nodes n ≡ f nodes → ((last : List Node) → Keeps nodes last → f last ≡ f nodes) → (last : List Node) → Keeps nodes last → term_at last n ≡ f last
  top_as f is stays last k = keeps_term nodes last n k typed ∙ is ∙ sym (stays last k)

  pub one_top : (op : Op) (a : TermId) → term_at nodes n ≡ one op (id_term nodes a) → (last : List Node) → Keeps nodes last → term_at last n ≡ one op (id_term last a)
  one_top op a is = let h = subst IsTyped is typed in top_as (λ last. one op (id_term last a)) is (λ last k. one_stays nodes last k op a h.1)

  pub two_top : (op : Op) (a b : TermId) → term_at nodes n ≡ two op (id_term nodes a) (id_term nodes b) → (last : List Node) → Keeps nodes last → term_at last n ≡ two op (id_term last a) (id_term last b)
  two_top op a b is = let h = subst IsTyped is typed in top_as (λ last. two op (id_term last a) (id_term last b)) is (λ last k. two_stays nodes last k op a b h.1 h.2)

  pub three_top : (op : Op) (a b c : TermId) → term_at nodes n ≡ three op (id_term nodes a) (id_term nodes b) (id_term nodes c) → (last : List Node) → Keeps nodes last → term_at last n ≡ three op (id_term last a) (id_term last b) (id_term last c)
  three_top op a b c is = let h = subst IsTyped is typed in top_as (λ last. three op (id_term last a) (id_term last b) (id_term last c)) is (λ last k. three_stays nodes last k op a b c h.1 h.2 h.3)

  pub sel_top : (f : Text) (i : TermId) → term_at nodes n ≡ sel f (id_term nodes i) → (last : List Node) → Keeps nodes last → term_at last n ≡ sel f (id_term last i)
  sel_top f i is = let h = subst IsTyped is typed in top_as (λ last. sel f (id_term last i)) is (λ last k. ap (sel f) (term_stays nodes last k i h.1))
