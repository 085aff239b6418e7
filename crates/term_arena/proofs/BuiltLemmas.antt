-- What calls add to a list of nodes, and when it is full.
use Rattle.std.proofs.Common.{◌≡◌, List, [], ◌∷◌, ◌++◌, length, map, ◌⊎◌, inl, inr, refl, ap, sym, ◌∙◌, subst, arith, length-append, append_assoc}
use Rattle.std.specs.Prelude.{Contains}
use Rattle.std.proofs.lemmas.Bool.{cases_lt}
use Rattle.std.proofs.lemmas.List.{map-append}
use Rattle.std.proofs.lemmas.List.Elements.{Contains-append_left, Contains-append_right, Contains-append_cases, Contains-push_cases, Contains-push}
use Rattle.term_tree.specs.Terms.{Tree, ArrayTree}
use Rattle.term_make.specs.Making.{Asked, Made, made_then, asks}
use Rattle.term_arena.specs.Nodes.{Node, Meaning, of_term, of_array, meaning_by, meanings_of, meaning_at, Keeps}
use Rattle.term_arena.specs.declared.keeping.TheConstants.{LIMIT}
use Rattle.term_arena.specs.Arena.{IsArena, IsTypedMeaning}
use Rattle.term_arena.specs.Keeping.{IsIn}
use Rattle.term_arena.specs.Built.{arguments_of, built_of, built, AddsOnly, IsFull}
use Rattle.term_arena.proofs.MeaningLemmas.{meaning_at-push}
use Rattle.term_arena.proofs.EqualLemmas.{node_of_meaning}

-- ---- lists of what is wanted

-- each of the first is one of the second
pub record Within (xs ys : List Meaning) : Type 0 where
  pub each : (m : Meaning) → Contains xs m → Contains ys m

pub within_itself : (xs : List Meaning) → Within xs xs
within_itself xs = record { each = λ m h. h }

pub within_trans : (xs ys zs : List Meaning) → Within xs ys → Within ys zs → Within xs zs
within_trans xs ys zs h k = record { each = λ m c. k.each m (h.each m c) }

pub within_left : (xs ys : List Meaning) → Within xs (xs ++ ys)
within_left xs ys = record { each = λ m c. Contains-append_left xs ys m c }

pub within_right : (xs ys : List Meaning) → Within ys (xs ++ ys)
within_right xs ys = record { each = λ m c. Contains-append_right xs ys m c }

pub within_both : (xs ys us vs : List Meaning) → Within xs us → Within ys vs → Within (xs ++ ys) (us ++ vs)
within_both xs ys us vs h k = record {
  each = λ m c.
      elim (Contains-append_cases xs ys m c) [
        | inl a ↦ Contains-append_left us vs m (h.each m a)
        | inr b ↦ Contains-append_right us vs m (k.each m b)
      ];
}

pub within_join : (xs ys zs : List Meaning) → Within xs zs → Within ys zs → Within (xs ++ ys) zs
within_join xs ys zs h k = record {
  each = λ m c.
      elim (Contains-append_cases xs ys m c) [
        | inl a ↦ h.each m a
        | inr b ↦ k.each m b
      ];
}

pub within_one : (x : Meaning) (ys : List Meaning) → Contains ys x → Within (x ∷ []) ys
within_one x ys h = record {
  each = λ m c.
      elim (Contains-push_cases [] x m c) [
        | inl n ↦ absurd (let lt = n.1 in omega (arith, lt))
        | inr e ↦ subst (Contains ys) e h
      ];
}

pub within_pair : (x : Meaning) (xs ys : List Meaning) → Within (x ∷ []) ys → Within xs ys → Within (x ∷ xs) ys
within_pair x xs ys h k = record {
  each = λ m c.
      elim (Contains-append_cases (x ∷ []) xs m c) [
        | inl a ↦ h.each m a
        | inr b ↦ k.each m b
      ];
}

-- ---- what is added

pub adds_nothing : (old new : List Node) (wanted : List Meaning) → new ≡ old → AddsOnly old new wanted
adds_nothing old new wanted e i ge lt = absurd (let l = ap length e in omega (arith, ge, lt, l))

pub adds_more : (old new : List Node) (xs ys : List Meaning) → Within xs ys → AddsOnly old new xs → AddsOnly old new ys
adds_more old new xs ys w h i ge lt = w.each (meaning_at new i) (h i ge lt)

pub adds_then : (old mid new : List Node) (xs ys wanted : List Meaning) → Keeps mid new → Within xs wanted → Within ys wanted → AddsOnly old mid xs → AddsOnly mid new ys → AddsOnly old new wanted
adds_then old mid new xs ys wanted k v w h g i ge lt =
    elim (cases_lt i (length mid)) [
      | inl l ↦ subst (Contains wanted) (sym (k.same i l)) (v.each (meaning_at mid i) (h i ge l))
      | inr n ↦ w.each (meaning_at new i) (g i n lt)
    ]

-- a node that was put behind the others
pub adds_node : (old new : List Node) (n : Node) (m : Meaning) → meaning_by (meanings_of old) n ≡ m → (new ≡ old) ⊎ (new ≡ old ++ n ∷ []) → AddsOnly old new (m ∷ [])
adds_node old new n m e added i ge lt =
    elim added [
      | inl same ↦ absurd (let l = ap length same in omega (arith, ge, lt, l))
      | inr more ↦
          let l = ap length more in
          let long = length-append old (n ∷ []) in
          let last : i ≡ length old = omega (arith, ge, lt, l, long) in
          let is : meaning_at new i ≡ m = ap (λ (k : List Node). meaning_at k i) more ∙ ap (meaning_at (old ++ n ∷ [])) last ∙ meaning_at-push old n ∙ e in
          subst (Contains (m ∷ [])) (sym is) (Contains-push [] m)
    ]

-- ---- a full list

pub full_more : (nodes : List Node) (xs ys : List Meaning) → Within xs ys → IsFull nodes xs → IsFull nodes ys
full_more nodes xs ys w h = record { full = h.full; lacking = h.lacking; wants = w.each h.lacking h.wants; lacks = h.lacks }

-- a node that isn't there lacks its meaning
pub full_node : (old new : List Node) (n : Node) (m : Meaning) → IsArena old → meaning_by (meanings_of old) n ≡ m → IsTypedMeaning m → new ≡ old → (length old ≡ LIMIT) × (IsIn n old → ⊥) → IsFull new (m ∷ [])
full_node old new n m ok e typed same h =
    subst (λ (l : List Node). IsFull l (m ∷ [])) (sym same) (record {
      full = h.0;
      lacking = m;
      wants = Contains-push [] m;
      lacks = λ i lt q. h.1 (i, node_of_meaning old ok i n lt (subst IsTypedMeaning (sym e) typed) (q ∙ sym e));
    })

-- ---- what is made on the way

built_of-append : (xs ys : List Asked) → built_of (xs ++ ys) ≡ built_of xs ++ built_of ys
built_of-append [] ys = refl
built_of-append (a ∷ xs) ys =
    ap (λ (l : List Meaning). map of_term (arguments_of a.0) ++ of_term a.1 ∷ l) (built_of-append xs ys)
    ∙ sym (append_assoc (map of_term (arguments_of a.0)) (of_term a.1 ∷ built_of xs) (built_of ys))

asked_left : (xs ys : List Asked) → Within (built_of xs) (built_of (xs ++ ys))
asked_left xs ys = subst (Within (built_of xs)) (sym (built_of-append xs ys)) (within_left (built_of xs) (built_of ys))

asked_right : (xs ys : List Asked) → Within (built_of ys) (built_of (xs ++ ys))
asked_right xs ys = subst (Within (built_of ys)) (sym (built_of-append xs ys)) (within_right (built_of xs) (built_of ys))

stored_left : (xs ys : List ArrayTree) → Within (map of_array xs) (map of_array (xs ++ ys))
stored_left xs ys = subst (Within (map of_array xs)) (sym (map-append of_array xs ys)) (within_left (map of_array xs) (map of_array ys))

stored_right : (xs ys : List ArrayTree) → Within (map of_array ys) (map of_array (xs ++ ys))
stored_right xs ys = subst (Within (map of_array ys)) (sym (map-append of_array xs ys)) (within_right (map of_array xs) (map of_array ys))

module _ {A B : Type 0} (m : Made A) (f : A → Made B) where
  pub built_first : Within (built m) (built (made_then m f))
  built_first =
      within_both (built_of m.asked) (map of_array m.stored) (built_of (m.asked ++ (f m.it).asked)) (map of_array (m.stored ++ (f m.it).stored))
      (asked_left m.asked (f m.it).asked) (stored_left m.stored (f m.it).stored)

  pub built_second : Within (built (f m.it)) (built (made_then m f))
  built_second =
      within_both (built_of (f m.it).asked) (map of_array (f m.it).stored) (built_of (m.asked ++ (f m.it).asked)) (map of_array (m.stored ++ (f m.it).stored))
      (asked_right m.asked (f m.it).asked) (stored_right m.stored (f m.it).stored)

  -- and nothing else
  pub built_then : Within (built (made_then m f)) (built m ++ built (f m.it))
  built_then =
      within_join (built_of (m.asked ++ (f m.it).asked)) (map of_array (m.stored ++ (f m.it).stored)) (built m ++ built (f m.it))
      (subst (λ (l : List Meaning). Within l (built m ++ built (f m.it))) (sym (built_of-append m.asked (f m.it).asked))
      (within_both (built_of m.asked) (built_of (f m.it).asked) (built m) (built (f m.it)) (within_left (built_of m.asked) (map of_array m.stored)) (within_left (built_of (f m.it).asked) (map of_array (f m.it).stored))))
      (subst (λ (l : List Meaning). Within l (built m ++ built (f m.it))) (sym (map-append of_array m.stored (f m.it).stored))
      (within_both (map of_array m.stored) (map of_array (f m.it).stored) (built m) (built (f m.it)) (within_right (built_of m.asked) (map of_array m.stored)) (within_right (built_of (f m.it).asked) (map of_array (f m.it).stored))))

module _ (t : Tree) (m : Made Tree) where
  -- what was made of it
  pub asks_inner : Within (built m) (built (asks t m))
  asks_inner =
      within_both (built_of m.asked) (map of_array m.stored) (built_of (m.asked ++ (t, m.it) ∷ [])) (map of_array m.stored)
      (asked_left m.asked ((t, m.it) ∷ [])) (within_itself (map of_array m.stored))

  -- the application that was asked for
  asks_last : Within (map of_term (arguments_of t) ++ of_term m.it ∷ []) (built (asks t m))
  asks_last =
      within_trans (map of_term (arguments_of t) ++ of_term m.it ∷ []) (built_of (m.asked ++ (t, m.it) ∷ [])) (built (asks t m))
      (asked_right m.asked ((t, m.it) ∷ [])) (within_left (built_of (m.asked ++ (t, m.it) ∷ [])) (map of_array m.stored))

  -- and nothing else
  pub asks_all : Within (built (asks t m)) (map of_term (arguments_of t) ++ of_term m.it ∷ built m)
  asks_all =
      let all = map of_term (arguments_of t) ++ of_term m.it ∷ built m in
      let more : Within (built m) all = within_trans (built m) (of_term m.it ∷ built m) all (within_right (of_term m.it ∷ []) (built m)) (within_right (map of_term (arguments_of t)) (of_term m.it ∷ built m)) in
      let last : Within (map of_term (arguments_of t) ++ of_term m.it ∷ []) all =
      within_both (map of_term (arguments_of t)) (of_term m.it ∷ []) (map of_term (arguments_of t)) (of_term m.it ∷ built m) (within_itself (map of_term (arguments_of t))) (within_left (of_term m.it ∷ []) (built m)) in
      within_join (built_of (m.asked ++ (t, m.it) ∷ [])) (map of_array m.stored) all
      (subst (λ (l : List Meaning). Within l all) (sym (built_of-append m.asked ((t, m.it) ∷ [])))
      (within_join (built_of m.asked) (map of_term (arguments_of t) ++ of_term m.it ∷ []) all (within_trans (built_of m.asked) (built m) all (within_left (built_of m.asked) (map of_array m.stored)) more) last))
      (within_trans (map of_array m.stored) (built m) all (within_right (built_of m.asked) (map of_array m.stored)) more)

  pub asks_arguments : Within (map of_term (arguments_of t)) (built (asks t m))
  asks_arguments =
      within_trans (map of_term (arguments_of t)) (map of_term (arguments_of t) ++ of_term m.it ∷ []) (built (asks t m))
      (within_left (map of_term (arguments_of t)) (of_term m.it ∷ [])) asks_last

  pub asks_result : Within (of_term m.it ∷ []) (built (asks t m))
  asks_result =
      within_trans (of_term m.it ∷ []) (map of_term (arguments_of t) ++ of_term m.it ∷ []) (built (asks t m))
      (within_right (map of_term (arguments_of t)) (of_term m.it ∷ [])) asks_last
