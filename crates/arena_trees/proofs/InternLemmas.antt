-- Trees as interned terms, and back.
use Rattle.std.proofs.Common.{◌≡◌, ℕ, ◌<◌, ◌≤◌, List, [], ◌∷◌, ◌++◌, length, get_or, Some, refl, ap, sym, ◌∙◌, subst, arith}
use Rattle.std.specs.Prelude.{◌≢◌, Result, Ok, Err, IfOk, slice_get}
use Rattle.bv_bits.specs.declared.Op.{Op}
use Rattle.term_tree.specs.declared.term.Term.{Term}
use Rattle.term_tree.specs.declared.term.ArrayTerm.{ArrayTerm}
use Rattle.term_tree.specs.declared.term.ArrayTerm.TheVariants as term
use Rattle.term_tree.specs.declared.term.ArrayTerm.TheOpen.{ArrayTerm-F}
use Rattle.term_tree.specs.declared.term.ArrayTerm.TheFolds.{fold-roll-ArrayTerm}
use Rattle.term_tree.specs.declared.term.TermFault.{TermFault}
use Rattle.term_tree.specs.declared.term.TermFault.TheVariants as fault
use Rattle.term_tree.specs.Terms.{Text, Tree, lit, var, one, two, three, sel, ArrayTree, array, upd, splice, IsTyped, height, array_height, HIGHEST}
use Rattle.term_tree.specs.View.{tree, array_tree, array_step}
use Rattle.term_arena.specs.declared.node.TermId.{TermId}
use Rattle.term_arena.specs.Nodes.{Node, of_term, of_array, as_array, as_term, meaning_by, meanings_of, term_at, sel_node}
use Rattle.term_arena.specs.Arena.{IsArena}
use Rattle.term_arena.specs.declared.node.ArrayId.{ArrayId}
use Rattle.term_arena.specs.Answers.{app_node, id_term, id_array}
use Rattle.term_arena.specs.Built.{parts, array_parts}
use Rattle.term_arena.proofs.AnswerLemmas.{answer_is}
use Rattle.term_arena.specs.Said.{Answer, Answers, Said, said_then, sole, single, whole_term, whole_array}
use Rattle.term_arena.specs.Makes.{AreLow, Makes}
use Rattle.term_arena.proofs.MakesLemmas.{low_one, low_both, not_high, makes_as}
use Rattle.term_arena.proofs.MeaningLemmas.{keeps_itself, meaning_at-get}
use Rattle.term_arena.proofs.ArgsLemmas.{three_of}
use Rattle.term_arena.proofs.EqualLemmas.{parts_below}

pub array_tree_var : (x : Text) → array_tree (term.Var x) ≡ array x
array_tree_var x = ap array_tree (sym (term.rolls-Var x)) ∙ fold-roll-ArrayTerm ArrayTree array_step (ArrayTerm-F.Var x)

pub array_tree_upd : (f : ArrayTerm) (i e : Term) → array_tree (term.Upd f i e) ≡ upd (array_tree f) (tree i) (tree e)
array_tree_upd f i e = ap array_tree (sym (term.rolls-Upd f i e)) ∙ fold-roll-ArrayTerm ArrayTree array_step (ArrayTerm-F.Upd f i e)

pub array_tree_splice : (f g : ArrayTerm) (i : Term) → array_tree (term.Splice f g i) ≡ splice (array_tree f) (array_tree g) (tree i)
array_tree_splice f g i = ap array_tree (sym (term.rolls-Splice f g i)) ∙ fold-roll-ArrayTerm ArrayTree array_step (ArrayTerm-F.Splice f g i)

-- ---- definitions, step by step

abbrev pub one_steps : Op → Tree → Said ⊥ Tree
one_steps op a = said_then (whole_term a) (λ x. single (one op x))

abbrev pub two_steps : Op → Tree → Tree → Said ⊥ Tree
two_steps op a b = said_then (whole_term a) (λ x. said_then (whole_term b) (λ y. single (two op x y)))

abbrev pub three_steps : Op → Tree → Tree → Tree → Said ⊥ Tree
three_steps op a b c = said_then (whole_term a) (λ x. said_then (whole_term b) (λ y. said_then (whole_term c) (λ z. single (three op x y z))))

abbrev pub sel_steps : Text → Tree → Said ⊥ Tree
sel_steps f i = said_then (whole_term i) (λ x. single (sel f x))

abbrev pub upd_steps : ArrayTree → Tree → Tree → Said ⊥ ArrayTree
upd_steps f i e = said_then (whole_array f) (λ g. said_then (whole_term i) (λ j. said_then (whole_term e) (λ d. sole as_array (of_array (upd g j d)))))

abbrev pub splice_steps : ArrayTree → ArrayTree → Tree → Said ⊥ ArrayTree
splice_steps f g i = said_then (whole_array f) (λ a. said_then (whole_array g) (λ b. said_then (whole_term i) (λ j. sole as_array (of_array (splice a b j)))))

one_is : (op : Op) (a : Tree) → one_steps op a ≡ whole_term (one op a)
unfolding said_then
one_is op a = refl

two_steps_is : (op : Op) (a b : Tree) → two_steps op a b ≡ whole_term (two op a b)
unfolding said_then
two_steps_is op a b = refl

three_steps_is : (op : Op) (a b c : Tree) → three_steps op a b c ≡ whole_term (three op a b c)
unfolding said_then
three_steps_is op a b c = refl

sel_is : (f : Text) (i : Tree) → sel_steps f i ≡ whole_term (sel f i)
unfolding said_then
sel_is f i = refl

upd_steps_is : (f : ArrayTree) (i e : Tree) → upd_steps f i e ≡ whole_array (upd f i e)
unfolding said_then
upd_steps_is f i e = refl

splice_steps_is : (f g : ArrayTree) (i : Tree) → splice_steps f g i ≡ whole_array (splice f g i)
unfolding said_then
splice_steps_is f g i = refl

module _ (old new : List Node) (r : Result TermId TermFault) where
  -- a tree by another name
  pub whole_as : (t u : Tree) → t ≡ u → Makes old new id_term r (λ last. whole_term u) → Makes old new id_term r (λ last. whole_term t)
  whole_as t u e m = subst (λ (x : Tree). Makes old new id_term r (λ last. whole_term x)) (sym e) m

  pub one_whole : (op : Op) (a t : Tree) → t ≡ one op a → Makes old new id_term r (λ last. one_steps op a) → Makes old new id_term r (λ last. whole_term t)
  one_whole op a t e m = whole_as t (one op a) e (makes_as m (λ last k. one_is op a))

  pub two_whole : (op : Op) (a b : Tree) → Makes old new id_term r (λ last. two_steps op a b) → Makes old new id_term r (λ last. whole_term (two op a b))
  two_whole op a b m = makes_as m (λ last k. two_steps_is op a b)

  pub three_whole : (op : Op) (a b c : Tree) → Makes old new id_term r (λ last. three_steps op a b c) → Makes old new id_term r (λ last. whole_term (three op a b c))
  three_whole op a b c m = makes_as m (λ last k. three_steps_is op a b c)

  pub sel_whole : (f : Text) (i t : Tree) → t ≡ sel f i → Makes old new id_term r (λ last. sel_steps f i) → Makes old new id_term r (λ last. whole_term t)
  sel_whole f i t e m = whole_as t (sel f i) e (makes_as m (λ last k. sel_is f i))

module _ (old new : List Node) (r : Result ArrayId TermFault) where
  pub whole_array_as : (t u : ArrayTree) → t ≡ u → Makes old new id_array r (λ last. whole_array u) → Makes old new id_array r (λ last. whole_array t)
  whole_array_as t u e m = subst (λ (x : ArrayTree). Makes old new id_array r (λ last. whole_array x)) (sym e) m

  pub upd_whole : (f : ArrayTree) (i e : Tree) → Makes old new id_array r (λ last. upd_steps f i e) → Makes old new id_array r (λ last. whole_array (upd f i e))
  upd_whole f i e m = makes_as m (λ last k. upd_steps_is f i e)

  pub splice_whole : (f g : ArrayTree) (i : Tree) → Makes old new id_array r (λ last. splice_steps f g i) → Makes old new id_array r (λ last. whole_array (splice f g i))
  splice_whole f g i m = makes_as m (λ last k. splice_steps_is f g i)

-- ---- parts are no higher

pub parts_low : (t : Tree) (n : ℕ) → height t ≤ n → n ≤ HIGHEST → AreLow (parts t)
parts_low (lit b) n h k = low_one (of_term (lit b)) (omega arith)
parts_low (var x w) n h k = low_one (of_term (var x w)) (omega arith)
parts_low (one op a) n h k = low_both (parts a) (of_term (one op a) ∷ []) (parts_low a n (omega arith) k) (low_one (of_term (one op a)) (omega arith))
parts_low (two op a b) n h k =
    low_both (parts a) (parts b ++ of_term (two op a b) ∷ []) (parts_low a n (omega arith) k)
    (low_both (parts b) (of_term (two op a b) ∷ []) (parts_low b n (omega arith) k) (low_one (of_term (two op a b)) (omega arith)))
parts_low (three op a b c) n h k =
    low_both (parts a) (parts b ++ (parts c ++ of_term (three op a b c) ∷ [])) (parts_low a n (omega arith) k)
    (low_both (parts b) (parts c ++ of_term (three op a b c) ∷ []) (parts_low b n (omega arith) k)
    (low_both (parts c) (of_term (three op a b c) ∷ []) (parts_low c n (omega arith) k) (low_one (of_term (three op a b c)) (omega arith))))
parts_low (sel f i) n h k = low_both (parts i) (of_term (sel f i) ∷ []) (parts_low i n (omega arith) k) (low_one (of_term (sel f i)) (omega arith))

pub array_parts_low : (f : ArrayTree) (n : ℕ) → array_height f ≤ n → n ≤ HIGHEST → AreLow (array_parts f)
array_parts_low (array f) n h k = low_one (of_array (array f)) (omega arith)
array_parts_low (upd f i e) n h k =
    low_both (array_parts f) (parts i ++ (parts e ++ of_array (upd f i e) ∷ [])) (array_parts_low f n (omega arith) k)
    (low_both (parts i) (parts e ++ of_array (upd f i e) ∷ []) (parts_low i n (omega arith) k)
    (low_both (parts e) (of_array (upd f i e) ∷ []) (parts_low e n (omega arith) k) (low_one (of_array (upd f i e)) (omega arith))))
array_parts_low (splice f g i) n h k =
    low_both (array_parts f) (array_parts g ++ (parts i ++ of_array (splice f g i) ∷ [])) (array_parts_low f n (omega arith) k)
    (low_both (array_parts g) (parts i ++ of_array (splice f g i) ∷ []) (array_parts_low g n (omega arith) k)
    (low_both (parts i) (of_array (splice f g i) ∷ []) (parts_low i n (omega arith) k) (low_one (of_array (splice f g i)) (omega arith))))

-- a call that is told to be too high is so
pub not_too_high : {T A : Type 0} (old new : List Node) (view : List Node → T → A) (r : Result T TermFault) (said : List Node → Said ⊥ A) → Makes old new view r said → AreLow (said new).work → r ≢ Err fault.TermTooHigh
not_too_high {T} {A} old new view r said m low e =
    let P : Result T TermFault → Type 0 = λ q. Makes old new view q said in
    not_high (said new).work low ((subst P e m).tells new (keeps_itself new))

-- ---- terms of numbers

module _ (n : List Node) (op : Op) where
  pub two_is : (x y : TermId) (a b : Tree) → (let s : Answer ⊥ Tree = Answers a in s) ≡ Answers (id_term n x) → (let s : Answer ⊥ Tree = Answers b in s) ≡ Answers (id_term n y) → two op (id_term n x) (id_term n y) ≡ two op a b
  two_is x y a b h g = ap (λ (t : Tree). two op t (id_term n y)) (sym (answer_is a (id_term n x) h)) ∙ ap (two op a) (sym (answer_is b (id_term n y) g))

  pub three_is : (x y z : TermId) (a b c : Tree) → (let s : Answer ⊥ Tree = Answers a in s) ≡ Answers (id_term n x) → (let s : Answer ⊥ Tree = Answers b in s) ≡ Answers (id_term n y) → (let s : Answer ⊥ Tree = Answers c in s) ≡ Answers (id_term n z)
      → three op (id_term n x) (id_term n y) (id_term n z) ≡ three op a b c
  three_is x y z a b c h g f =
      ap (λ (t : Tree). three op t (id_term n y) (id_term n z)) (sym (answer_is a (id_term n x) h)) ∙ ap (λ (t : Tree). three op a t (id_term n z)) (sym (answer_is b (id_term n y) g)) ∙ ap (three op a b) (sym (answer_is c (id_term n z) f))

module _ (n : List Node) where
  pub upd_is : (x : ArrayId) (y z : TermId) (f : ArrayTree) (i e : Tree) → (let s : Answer ⊥ ArrayTree = Answers f in s) ≡ Answers (id_array n x) → (let s : Answer ⊥ Tree = Answers i in s) ≡ Answers (id_term n y) → (let s : Answer ⊥ Tree = Answers e in s) ≡ Answers (id_term n z)
      → upd (id_array n x) (id_term n y) (id_term n z) ≡ upd f i e
  upd_is x y z f i e h g q =
      ap (λ (t : ArrayTree). upd t (id_term n y) (id_term n z)) (sym (answer_is f (id_array n x) h)) ∙ ap (λ (t : Tree). upd f t (id_term n z)) (sym (answer_is i (id_term n y) g)) ∙ ap (upd f i) (sym (answer_is e (id_term n z) q))

  pub splice_is : (x y : ArrayId) (z : TermId) (f g : ArrayTree) (i : Tree) → (let s : Answer ⊥ ArrayTree = Answers f in s) ≡ Answers (id_array n x) → (let s : Answer ⊥ ArrayTree = Answers g in s) ≡ Answers (id_array n y) → (let s : Answer ⊥ Tree = Answers i in s) ≡ Answers (id_term n z)
      → splice (id_array n x) (id_array n y) (id_term n z) ≡ splice f g i
  splice_is x y z f g i h k q =
      ap (λ (t : ArrayTree). splice t (id_array n y) (id_term n z)) (sym (answer_is f (id_array n x) h)) ∙ ap (λ (t : ArrayTree). splice f t (id_term n z)) (sym (answer_is g (id_array n y) k)) ∙ ap (splice f g) (sym (answer_is i (id_term n z) q))

-- what holds of a term that is interned holds of the term of its number
pub interned_has : (P : Tree → Type 0) (old new : List Node) (r : Result TermId TermFault) (t : Tree) → Makes old new id_term r (λ last. whole_term t) → P t → IfOk r (λ id. P (id_term new id))
interned_has P old new (Ok id) t m h = subst P (answer_is t (id_term new id) (m.tells new (keeps_itself new)).0) h
interned_has P old new (Err e) t m h = tt
