-- What the code that replaces variables owes the calls that it makes, and what it answers.
use Rattle.std.proofs.Common.{◌≡◌, ℕ, List, ap, sym, ◌∙◌, subst}
use Rattle.std.specs.Prelude.{Result, Ok, IfOk}
use Rattle.bv_bits.specs.declared.Op.{Op}
use Rattle.term_tree.specs.declared.term.TermFault.{TermFault}
use Rattle.term_tree.specs.Terms.{Text, Tree, one, two, three, sel, ArrayTree, upd, splice, IsTyped, IsTypedArray, width_of}
use Rattle.term_make.specs.Making.{Made, just, make}
use Rattle.term_select.specs.Selecting.{select}
use Rattle.term_replace.specs.Replacing.{Replacements, substitute, substitute_array, replaced_array, update, join_at, Fits, FitsArray}
use Rattle.term_replace.specs.Laws.{AreTyped}
use Rattle.term_make.proofs.TypedLemmas.{one_typed, two_typed, three_typed}
use Rattle.term_replace.proofs.ReplaceLemmas.{substitute_typed, substitute_array_typed}
use Rattle.term_arena.specs.declared.node.TermId.{TermId}
use Rattle.term_arena.specs.declared.node.ArrayId.{ArrayId}
use Rattle.term_arena.specs.Nodes.{Node, Keeps}
use Rattle.term_arena.specs.Answers.{id_term, id_array}
use Rattle.term_arena.specs.Built.{built}
use Rattle.term_arena.specs.Said.{Answers, Said, said_of, said_then}
use Rattle.term_arena.specs.Makes.{AreLow, Makes}
use Rattle.arena_replace.specs.Substituting.{StandsFor, StandsForArray}
use Rattle.term_arena.proofs.MeaningLemmas.{keeps_itself, keeps_trans}
use Rattle.term_arena.proofs.MakesLemmas.{makes_here, makes_as, low_none}
use Rattle.term_arena.proofs.CoverLemmas.{covers_made, covers_two, covers_three, makes_more}
use Rattle.term_arena.proofs.StayLemmas.{term_stays, array_stays}
use Rattle.term_arena.proofs.AnswerLemmas.{answer_is, makes_has}

-- ---- what is made of typed terms

module _ (by : Replacements) (ok : AreTyped by) where
  pub made_has : (t u : Tree) → Fits by t → IsTyped t → (substitute by t).it ≡ u → IsTyped u × (width_of u ≡ width_of t)
  made_has t u f h e = subst (λ (v : Tree). IsTyped v × (width_of v ≡ width_of t)) e (substitute_typed by t ok f h)

  pub made_part : (t u : Tree) (w : ℕ) → Fits by t → (width_of t ≡ w) × IsTyped t → (substitute by t).it ≡ u → (width_of u ≡ w) × IsTyped u
  made_part t u w f h e = let i = made_has t u f h.1 e in (i.1 ∙ h.0, i.0)

  pub made_array : (f g : ArrayTree) → FitsArray by f → IsTypedArray f → (substitute_array by f).it ≡ g → IsTypedArray g
  made_array f g k h e = subst IsTypedArray e (substitute_array_typed by f ok k h)

  pub owes_one : (op : Op) (a x : Tree) → Fits by a → IsTyped (one op a) → (substitute by a).it ≡ x → IsTyped (one op x)
  owes_one op a x f h e =
      let i = made_has a x f h.1 e in
      (one_typed op x (width_of a) h.0 i.0 i.1).0

  pub owes_two : (op : Op) (a b x y : Tree) → Fits by a × Fits by b → IsTyped (two op a b) → (substitute by a).it ≡ x → (substitute by b).it ≡ y → IsTyped (two op x y)
  owes_two op a b x y f h e g =
      let i = made_has a x f.0 h.1 e in
      let j = made_has b y f.1 h.2 g in
      (two_typed op x y (width_of a) (width_of b) h.0 i.0 j.0 i.1 j.1).0

  pub owes_three : (op : Op) (a b c x y z : Tree) → Fits by a × Fits by b × Fits by c → IsTyped (three op a b c) → (substitute by a).it ≡ x → (substitute by b).it ≡ y → (substitute by c).it ≡ z → IsTyped (three op x y z)
  owes_three op a b c x y z f h e g k =
      let i = made_has a x f.0 h.1 e in
      let j = made_has b y f.1 h.2 g in
      let l = made_has c z f.2 h.3 k in
      (three_typed op x y z (width_of a) (width_of b) (width_of c) h.0 i.0 j.0 l.0 i.1 j.1 l.1).0

-- ---- definitions, step by step

module _ (by : Replacements) where
  abbrev pub one_steps : Op → Tree → Said ⊥ Tree
  one_steps op a = said_then (said_of (substitute by a)) (λ x. said_of (make (one op x)))

  abbrev pub two_steps : Op → Tree → Tree → Said ⊥ Tree
  two_steps op a b = said_then (said_of (substitute by a)) (λ x. said_then (said_of (substitute by b)) (λ y. said_of (make (two op x y))))

  abbrev pub three_steps : Op → Tree → Tree → Tree → Said ⊥ Tree
  three_steps op a b c =
      said_then (said_of (substitute by a)) (λ x. said_then (said_of (substitute by b)) (λ y. said_then (said_of (substitute by c)) (λ z. said_of (make (three op x y z)))))

  abbrev pub sel_steps : Text → Tree → Said ⊥ Tree
  sel_steps f i = said_then (said_of (substitute by i)) (λ x. said_of (select (replaced_array by f) x))

  abbrev pub upd_steps : ArrayTree → Tree → Tree → Said ⊥ ArrayTree
  upd_steps f i e =
      said_then (said_of (substitute_array by f)) (λ g. said_then (said_of (substitute by i)) (λ j. said_then (said_of (substitute by e)) (λ d. said_of (update g j d))))

  abbrev pub splice_steps : ArrayTree → ArrayTree → Tree → Said ⊥ ArrayTree
  splice_steps f g i =
      said_then (said_of (substitute_array by f)) (λ a. said_then (said_of (substitute_array by g)) (λ b. said_then (said_of (substitute by i)) (λ j. said_of (join_at a b j))))

  module _ (old new : List Node) (r : Result TermId TermFault) where
    pub one_makes : (op : Op) (a : TermId) → Makes old new id_term r (λ last. one_steps op (id_term last a)) → Makes old new id_term r (λ last. said_of (substitute by (one op (id_term last a))))
    one_makes op a m = makes_more m (λ last k. covers_made (substitute by (id_term last a)) (λ x. make (one op x)))

    pub two_makes : (op : Op) (a b : TermId) → Makes old new id_term r (λ last. two_steps op (id_term last a) (id_term last b)) → Makes old new id_term r (λ last. said_of (substitute by (two op (id_term last a) (id_term last b))))
    two_makes op a b m = makes_more m (λ last k. covers_two (substitute by (id_term last a)) (λ x. substitute by (id_term last b)) (λ x y. make (two op x y)))

    pub three_makes : (op : Op) (a b c : TermId) → Makes old new id_term r (λ last. three_steps op (id_term last a) (id_term last b) (id_term last c)) → Makes old new id_term r (λ last. said_of (substitute by (three op (id_term last a) (id_term last b) (id_term last c))))
    three_makes op a b c m =
        makes_more m (λ last k. covers_three (substitute by (id_term last a)) (λ x. substitute by (id_term last b)) (λ x y. substitute by (id_term last c)) (λ x y z. make (three op x y z)))

    pub sel_makes : (f : Text) (i : TermId) → Makes old new id_term r (λ last. sel_steps f (id_term last i)) → Makes old new id_term r (λ last. said_of (substitute by (sel f (id_term last i))))
    sel_makes f i m = makes_more m (λ last k. covers_made (substitute by (id_term last i)) (λ x. select (replaced_array by f) x))

  module _ (old new : List Node) (r : Result ArrayId TermFault) where
    pub upd_makes : (f : ArrayId) (i e : TermId) → Makes old new id_array r (λ last. upd_steps (id_array last f) (id_term last i) (id_term last e)) → Makes old new id_array r (λ last. said_of (substitute_array by (upd (id_array last f) (id_term last i) (id_term last e))))
    upd_makes f i e m =
        makes_more m (λ last k. covers_three (substitute_array by (id_array last f)) (λ g. substitute by (id_term last i)) (λ g j. substitute by (id_term last e)) (λ g j d. update g j d))

    pub splice_makes : (f g : ArrayId) (i : TermId) → Makes old new id_array r (λ last. splice_steps (id_array last f) (id_array last g) (id_term last i)) → Makes old new id_array r (λ last. said_of (substitute_array by (splice (id_array last f) (id_array last g) (id_term last i))))
    splice_makes f g i m =
        makes_more m (λ last k. covers_three (substitute_array by (id_array last f)) (λ a. substitute_array by (id_array last g)) (λ a b. substitute by (id_term last i)) (λ a b j. join_at a b j))

-- ---- what is known

module _ (by : Replacements) (old new : List Node) (k : Keeps old new) where
  pub fits_stays : (a : TermId) → IsTyped (id_term old a) → Fits by (id_term old a) → Fits by (id_term new a)
  fits_stays a h f = subst (Fits by) (sym (term_stays old new k a h)) f

  pub fits_array_stays : (a : ArrayId) → IsTypedArray (id_array old a) → FitsArray by (id_array old a) → FitsArray by (id_array new a)
  fits_array_stays a h f = subst (FitsArray by) (sym (array_stays old new k a h)) f

module _ (by : Replacements) (nodes : List Node) where
  -- what stands for a term answers
  pub known_makes : (t x : TermId) → StandsFor nodes by t.number x.number → Fits by (id_term nodes t) → Makes nodes nodes id_term (Ok x) (λ last. said_of (substitute by (id_term last t)))
  known_makes t x h f =
      let i = h.is f in
      makes_here nodes id_term (Ok x) (λ last. said_of (substitute by (id_term last t)))
      (λ last k.
      let e = term_stays nodes last k t h.of in
      (ap Answers (ap (λ (u : Tree). (substitute by u).it) e ∙ i.0 ∙ sym (term_stays nodes last k x h.typed)), subst (λ (u : Tree). AreLow (built (substitute by u))) (sym e) i.1))

  pub known_array_makes : (t x : ArrayId) → StandsForArray nodes by t.number x.number → FitsArray by (id_array nodes t) → Makes nodes nodes id_array (Ok x) (λ last. said_of (substitute_array by (id_array last t)))
  known_array_makes t x h f =
      let i = h.is f in
      makes_here nodes id_array (Ok x) (λ last. said_of (substitute_array by (id_array last t)))
      (λ last k.
      let e = array_stays nodes last k t h.of in
      (ap Answers (ap (λ (u : ArrayTree). (substitute_array by u).it) e ∙ i.0 ∙ sym (array_stays nodes last k x h.typed)), subst (λ (u : ArrayTree). AreLow (built (substitute_array by u))) (sym e) i.1))

  -- a term for which itself stands
  pub same_makes : (t : TermId) → IsTyped (id_term nodes t) → substitute by (id_term nodes t) ≡ just (id_term nodes t) → Makes nodes nodes id_term (Ok t) (λ last. said_of (substitute by (id_term last t)))
  same_makes t h e =
      makes_here nodes id_term (Ok t) (λ last. said_of (substitute by (id_term last t)))
      (λ last k.
      let i = term_stays nodes last k t h in
      let m : substitute by (id_term last t) ≡ just (id_term nodes t) = ap (substitute by) i ∙ e in
      (ap Answers (ap (λ (u : Made Tree). u.it) m ∙ sym i), subst (λ (u : Made Tree). AreLow (built u)) (sym m) low_none))

  pub same_array_makes : (t : ArrayId) → IsTypedArray (id_array nodes t) → substitute_array by (id_array nodes t) ≡ just (id_array nodes t) → Makes nodes nodes id_array (Ok t) (λ last. said_of (substitute_array by (id_array last t)))
  same_array_makes t h e =
      makes_here nodes id_array (Ok t) (λ last. said_of (substitute_array by (id_array last t)))
      (λ last k.
      let i = array_stays nodes last k t h in
      let m : substitute_array by (id_array last t) ≡ just (id_array nodes t) = ap (substitute_array by) i ∙ e in
      (ap Answers (ap (λ (u : Made ArrayTree). u.it) m ∙ sym i), subst (λ (u : Made ArrayTree). AreLow (built u)) (sym m) low_none))

module _ (by : Replacements) (old new : List Node) where
  -- what a call has made of a term stands for it
  pub made_stands : (t x : TermId) → Keeps old new → IsTyped (id_term old t) → IsTyped (id_term new x) → (Fits by (id_term old t) → Makes old new id_term (Ok x) (λ last. said_of (substitute by (id_term last t)))) → StandsFor new by t.number x.number
  made_stands t x k h g m =
      let e = term_stays old new k t h in
      record {
        of = subst IsTyped (sym e) h;
        typed = g;
        is = λ f.
            let a = (m (subst (Fits by) e f)).tells new (keeps_itself new) in
            (answer_is (substitute by (id_term new t)).it (id_term new x) a.0, a.1);
      }

  pub made_array_stands : (t x : ArrayId) → Keeps old new → IsTypedArray (id_array old t) → IsTypedArray (id_array new x) → (FitsArray by (id_array old t) → Makes old new id_array (Ok x) (λ last. said_of (substitute_array by (id_array last t)))) → StandsForArray new by t.number x.number
  made_array_stands t x k h g m =
      let e = array_stays old new k t h in
      record {
        of = subst IsTypedArray (sym e) h;
        typed = g;
        is = λ f.
            let a = (m (subst (FitsArray by) e f)).tells new (keeps_itself new) in
            (answer_is (substitute_array by (id_array new t)).it (id_array new x) a.0, a.1);
      }

pub sel_name : (f g : Text) (i j : Tree) → sel f i ≡ sel g j → f ≡ g
sel_name f g i j e = cc

-- the term of a number by another name
pub made_as : (by : Replacements) (old new : List Node) (r : Result TermId TermFault) (t : TermId) (f : List Node → Tree) → ((last : List Node) → Keeps old last → id_term last t ≡ f last) → Makes old new id_term r (λ last. said_of (substitute by (f last))) → Makes old new id_term r (λ last. said_of (substitute by (id_term last t)))
made_as by old new r t f is m = makes_as m (λ last k. ap (λ (u : Tree). let s : Said ⊥ Tree = said_of (substitute by u) in s) (sym (is last (keeps_trans old new last m.kept k))))

pub made_array_as : (by : Replacements) (old new : List Node) (r : Result ArrayId TermFault) (t : ArrayId) (f : List Node → ArrayTree) → ((last : List Node) → Keeps old last → id_array last t ≡ f last) → Makes old new id_array r (λ last. said_of (substitute_array by (f last))) → Makes old new id_array r (λ last. said_of (substitute_array by (id_array last t)))
made_array_as by old new r t f is m = makes_as m (λ last k. ap (λ (u : ArrayTree). let s : Said ⊥ ArrayTree = said_of (substitute_array by u) in s) (sym (is last (keeps_trans old new last m.kept k))))

-- it is as wide
pub substitute_wide : (by : Replacements) (old new : List Node) (r : Result TermId TermFault) (t : TermId) → AreTyped by → IsTyped (id_term old t) → Fits by (id_term old t) → Makes old new id_term r (λ last. said_of (substitute by (id_term last t))) → IfOk r (λ id. width_of (id_term new id) ≡ width_of (id_term old t))
substitute_wide by old new r t ok h f m =
    let e = term_stays old new m.kept t h in
    makes_has (λ (u : Tree). width_of u ≡ width_of (id_term old t)) old new id_term r (λ last. substitute by (id_term last t)) m
    (subst (λ (u : Tree). width_of (substitute by u).it ≡ width_of (id_term old t)) (sym e) (substitute_typed by (id_term old t) ok f h).1)
