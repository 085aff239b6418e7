-- Pairs of variables and terms, as what is known to stand for them.
use Rattle.std.proofs.Common.{◌≡◌, ℕ, zero, suc, Bool, true, false, cond, ◌<◌, List, [], ◌∷◌, length, map, Option, Some, inl, inr, refl, ap, sym, ◌∙◌, subst, arith, true≢false}
use Rattle.std.specs.Prelude.{All, nat_eq, bytes_eq, find, unwrap_or, slice_index_or}
use Rattle.std.specs.Option.{option_map}
use Rattle.std.proofs.lemmas.List.Elements.{All-head, All-tail, All-map, All-weaker}
use Rattle.std.proofs.lemmas.Slice.Eq.{bytes_eq-Decides}
use Rattle.std.proofs.lemmas.Bool.Decides.{eqb_tells}
use Rattle.term_tree.specs.Terms.{Text, Tree, var, ArrayTree, array, IsTyped, IsTypedArray, width_of}
use Rattle.term_replace.specs.Replacing.{Replacements, substitute, substitute_array, Fits}
use Rattle.term_tree.proofs.WidthLemmas.{width_is}
use Rattle.term_arena.specs.declared.node.TermId.{TermId}
use Rattle.term_arena.specs.declared.node.ArrayId.{ArrayId}
use Rattle.arena_replace.specs.declared.substituting.Known.{Known}
use Rattle.term_arena.specs.Nodes.{Node, term_at, array_at, Keeps}
use Rattle.term_arena.specs.Built.{built}
use Rattle.term_arena.specs.Makes.{AreLow}
use Rattle.term_arena.proofs.MakesLemmas.{low_none}
use Rattle.term_arena.proofs.MeaningLemmas.{keeps_term, keeps_array}
use Rattle.term_arena.specs.Keeping.{EqualTermsAreOne, EqualArraysAreOne}
use Rattle.term_arena.specs.Answers.{id_term, id_array}
use Rattle.arena_replace.specs.Renumbering.{number_for, first_term, first_array}
use Rattle.arena_replace.specs.Substituting.{name_of_variable, name_of_array, named, named_array, replacements, Replaces, ReplacesArray, StandsFor, StandsForArray, Knows}

-- ---- the first that passes

-- what is found first, where the test tells whether the number is the same
found_first : {X A : Type 0} (part : X → A) (b c : Bool) (p : X) (rest : Option X) (d t : A) (s r : ℕ) (o : Option ℕ)
    → (b ≡ true → c ≡ true) → (c ≡ true → b ≡ true) → cond c (Some s) o ≡ Some r → (c ≡ true → s ≡ r → part p ≡ t) → (o ≡ Some r → unwrap_or (option_map part rest) d ≡ t)
    → unwrap_or (option_map part (cond b (Some p) rest)) d ≡ t
found_first part true true p rest d t s r o f g e here there = here refl (let q : s ≡ r = cc in q)
found_first part true false p rest d t s r o f g e here there = absurd (true≢false (sym (f refl)))
found_first part false true p rest d t s r o f g e here there = absurd (true≢false (sym (g refl)))
found_first part false false p rest d t s r o f g e here there = there e

-- a number that stands for another, here or further on
some_here : (b : Bool) (s : ℕ) (o : Option ℕ) → b ≡ true → (r : ℕ) × (cond b (Some s) o ≡ Some r)
some_here true s o e = (s, refl)
some_here false s o e = absurd (true≢false (sym e))

some_there : (b : Bool) (s r : ℕ) (o : Option ℕ) → o ≡ Some r → (q : ℕ) × (cond b (Some s) o ≡ Some q)
some_there true s r o e = (s, refl)
some_there false s r o e = (r, e)

-- what holds of the pair that is found
found_has : (P : ℕ → ℕ → Type 0) (b : Bool) (n k s r : ℕ) (o : Option ℕ) → (b ≡ true → n ≡ k) → cond b (Some s) o ≡ Some r → P n s → (o ≡ Some r → P k r) → P k r
found_has P true n k s r o same e p q =
    let f : s ≡ r = cc in
    subst (P k) f (subst (λ (m : ℕ). P m s) (same refl) p)
found_has P false n k s r o same e p q = q e

same_number : (n k : ℕ) → nat_eq n k ≡ true → n ≡ k
same_number n k e = elim (eqb_tells n k) [ inl p ↦ p.1 | inr p ↦ absurd (true≢false (sym e ∙ p.0)) ]

number_same : (n k : ℕ) → n ≡ k → nat_eq n k ≡ true
number_same n k e = elim (eqb_tells n k) [ inl p ↦ p.0 | inr p ↦ absurd (p.1 e) ]

-- ---- terms

module _ (nodes : List Node) (once : EqualTermsAreOne nodes) where
  -- the variable of a pair
  pair_name : (p : TermId × TermId) → Replaces nodes p → id_term nodes p.0 ≡ var (named nodes p).0 (width_of (named nodes p).1)
  pair_name p h = h.1 ∙ ap (λ (x : Text). var x (width_of (id_term nodes p.1))) (sym (ap name_of_variable h.1))

  pair_typed : (p : TermId × TermId) → Replaces nodes p → IsTyped (id_term nodes p.0)
  pair_typed p h = subst IsTyped (sym h.1) (width_is (id_term nodes p.1) h.2)

  -- it is the variable of this name and width, where it has the name
  pair_number : (p : TermId × TermId) (x : Text) (w n : ℕ) → Replaces nodes p → term_at nodes n ≡ var x w → (bytes_eq (named nodes p).0 x ≡ true → width_of (named nodes p).1 ≡ w) → bytes_eq (named nodes p).0 x ≡ true → nat_eq p.0.number n ≡ true
  pair_number p x w n h e wide b =
      let name : (named nodes p).0 ≡ x = (bytes_eq-Decides (named nodes p).0 x).0 b in
      let same : var (named nodes p).0 (width_of (named nodes p).1) ≡ var x w = ap (λ (y : Text). var y (width_of (named nodes p).1)) name ∙ ap (var x) (wide b) in
      number_same p.0.number n (once p.0.number n (pair_typed p h) (pair_name p h ∙ same ∙ sym e))

  number_pair : (p : TermId × TermId) (x : Text) (w n : ℕ) → Replaces nodes p → term_at nodes n ≡ var x w → nat_eq p.0.number n ≡ true → bytes_eq (named nodes p).0 x ≡ true
  number_pair p x w n h e b =
      (bytes_eq-Decides (named nodes p).0 x).1 (ap name_of_variable (ap (term_at nodes) (same_number p.0.number n b) ∙ e))

  -- what stands for a variable's number stands for its name
  first_named : (bits : List (TermId × TermId)) (x : Text) (w n r : ℕ) → All (Replaces nodes) bits → term_at nodes n ≡ var x w → All (λ p. bytes_eq p.0 x ≡ true → width_of p.1 ≡ w) (map (named nodes) bits) → first_term bits n ≡ Some r
      → unwrap_or (option_map (λ p. p.1) (find (λ p. bytes_eq p.0 x) (map (named nodes) bits))) (var x w) ≡ term_at nodes r
  first_named [] x w n r h e fits f = absurd (let z : ⊥ = cc in z)
  first_named (p ∷ bits) x w n r h e fits f =
      let hp = All-head (Replaces nodes) p bits h in
      let wide = All-head (λ p. bytes_eq p.0 x ≡ true → width_of p.1 ≡ w) (named nodes p) (map (named nodes) bits) fits in
      let rest = All-tail (λ p. bytes_eq p.0 x ≡ true → width_of p.1 ≡ w) (named nodes p) (map (named nodes) bits) fits in
      found_first (λ (q : Text × Tree). q.1) (bytes_eq (named nodes p).0 x) (nat_eq p.0.number n) (named nodes p) (find (λ p. bytes_eq p.0 x) (map (named nodes) bits)) (var x w) (term_at nodes r) p.1.number r (first_term bits n)
      (pair_number p x w n hp e wide) (number_pair p x w n hp e) f
      (λ c s. ap (term_at nodes) s)
      (λ o. first_named bits x w n r (All-tail (Replaces nodes) p bits h) e rest o)

  -- a number for which one stands is that of a pair
  IsPair : ℕ → ℕ → Type 0
  IsPair n r = (x : Text) × (term_at nodes n ≡ var x (width_of (term_at nodes r))) × IsTyped (term_at nodes r)

  first_pair : (bits : List (TermId × TermId)) (n r : ℕ) → All (Replaces nodes) bits → first_term bits n ≡ Some r → IsPair n r
  unfolding IsPair
  first_pair [] n r h f = absurd (let z : ⊥ = cc in z)
  first_pair (p ∷ bits) n r h f =
      found_has IsPair (nat_eq p.0.number n) p.0.number n p.1.number r (first_term bits n) (same_number p.0.number n) f (All-head (Replaces nodes) p bits h)
      (λ o. first_pair bits n r (All-tail (Replaces nodes) p bits h) o)

  pub first_stands : (bits : List (TermId × TermId)) (arrays : List (ArrayId × ArrayId)) (n r : ℕ) → All (Replaces nodes) bits → first_term bits n ≡ Some r → StandsFor nodes (replacements nodes bits arrays) n r
  unfolding IsPair
  first_stands bits arrays n r h f =
      let p = first_pair bits n r h f in
      record {
        of = subst IsTyped (sym p.1) (width_is (term_at nodes r) p.2);
        typed = p.2;
        is = λ fits.
            subst (λ (t : Tree). ((substitute (replacements nodes bits arrays) t).it ≡ term_at nodes r) × AreLow (built (substitute (replacements nodes bits arrays) t))) (sym p.1)
            (first_named bits p.0 (width_of (term_at nodes r)) n r h p.1 (subst (Fits (replacements nodes bits arrays)) p.1 fits) f, low_none);
      }

  -- for each pair's first term one stands
  pub first_some : (bits : List (TermId × TermId)) (i : ℕ) (d : TermId × TermId) → i < length bits → (r : ℕ) × (first_term bits (slice_index_or bits i d).0.number ≡ Some r)
  first_some [] i d lt = absurd (omega arith)
  first_some (p ∷ bits) zero d lt = some_here (nat_eq p.0.number p.0.number) p.1.number (first_term bits p.0.number) (number_same p.0.number p.0.number refl)
  first_some (p ∷ bits) (suc i) d lt =
      let k = first_some bits i d (omega arith) in
      some_there (nat_eq p.0.number (slice_index_or bits i d).0.number) p.1.number k.0 (first_term bits (slice_index_or bits i d).0.number) k.1

-- ---- array terms

module _ (nodes : List Node) (once : EqualArraysAreOne nodes) where
  array_name : (p : ArrayId × ArrayId) → ReplacesArray nodes p → id_array nodes p.0 ≡ array (named_array nodes p).0
  array_name p h = h.1 ∙ ap array (sym (ap name_of_array h.1))

  array_pair_number : (p : ArrayId × ArrayId) (f : Text) (n : ℕ) → ReplacesArray nodes p → array_at nodes n ≡ array f → bytes_eq (named_array nodes p).0 f ≡ true → nat_eq p.0.number n ≡ true
  array_pair_number p f n h e b =
      let name : (named_array nodes p).0 ≡ f = (bytes_eq-Decides (named_array nodes p).0 f).0 b in
      number_same p.0.number n (once p.0.number n (subst IsTypedArray (sym h.1) tt) (array_name p h ∙ ap array name ∙ sym e))

  number_array_pair : (p : ArrayId × ArrayId) (f : Text) (n : ℕ) → array_at nodes n ≡ array f → nat_eq p.0.number n ≡ true → bytes_eq (named_array nodes p).0 f ≡ true
  number_array_pair p f n e b =
      (bytes_eq-Decides (named_array nodes p).0 f).1 (ap name_of_array (ap (array_at nodes) (same_number p.0.number n b) ∙ e))

  first_array_named : (arrays : List (ArrayId × ArrayId)) (f : Text) (n r : ℕ) → All (ReplacesArray nodes) arrays → array_at nodes n ≡ array f → first_array arrays n ≡ Some r
      → unwrap_or (option_map (λ p. p.1) (find (λ p. bytes_eq p.0 f) (map (named_array nodes) arrays))) (array f) ≡ array_at nodes r
  first_array_named [] f n r h e o = absurd (let z : ⊥ = cc in z)
  first_array_named (p ∷ arrays) f n r h e o =
      let hp = All-head (ReplacesArray nodes) p arrays h in
      found_first (λ (q : Text × ArrayTree). q.1) (bytes_eq (named_array nodes p).0 f) (nat_eq p.0.number n) (named_array nodes p) (find (λ p. bytes_eq p.0 f) (map (named_array nodes) arrays)) (array f) (array_at nodes r) p.1.number r (first_array arrays n)
      (array_pair_number p f n hp e) (number_array_pair p f n e) o
      (λ c s. ap (array_at nodes) s)
      (λ q. first_array_named arrays f n r (All-tail (ReplacesArray nodes) p arrays h) e q)

  IsArrayPair : ℕ → ℕ → Type 0
  IsArrayPair n r = (f : Text) × (array_at nodes n ≡ array f) × IsTypedArray (array_at nodes r)

  first_array_pair : (arrays : List (ArrayId × ArrayId)) (n r : ℕ) → All (ReplacesArray nodes) arrays → first_array arrays n ≡ Some r → IsArrayPair n r
  unfolding IsArrayPair
  first_array_pair [] n r h f = absurd (let z : ⊥ = cc in z)
  first_array_pair (p ∷ arrays) n r h f =
      found_has IsArrayPair (nat_eq p.0.number n) p.0.number n p.1.number r (first_array arrays n) (same_number p.0.number n) f (All-head (ReplacesArray nodes) p arrays h)
      (λ o. first_array_pair arrays n r (All-tail (ReplacesArray nodes) p arrays h) o)

  pub first_array_stands : (bits : List (TermId × TermId)) (arrays : List (ArrayId × ArrayId)) (n r : ℕ) → All (ReplacesArray nodes) arrays → first_array arrays n ≡ Some r → StandsForArray nodes (replacements nodes bits arrays) n r
  unfolding IsArrayPair
  first_array_stands bits arrays n r h f =
      let p = first_array_pair arrays n r h f in
      record {
        of = subst IsTypedArray (sym p.1) tt;
        typed = p.2;
        is = λ fits.
            subst (λ (t : ArrayTree). ((substitute_array (replacements nodes bits arrays) t).it ≡ array_at nodes r) × AreLow (built (substitute_array (replacements nodes bits arrays) t))) (sym p.1)
            (first_array_named arrays p.0 n r h p.1 f, low_none);
      }

  pub first_array_some : (arrays : List (ArrayId × ArrayId)) (i : ℕ) (d : ArrayId × ArrayId) → i < length arrays → (r : ℕ) × (first_array arrays (slice_index_or arrays i d).0.number ≡ Some r)
  first_array_some [] i d lt = absurd (omega arith)
  first_array_some (p ∷ arrays) zero d lt = some_here (nat_eq p.0.number p.0.number) p.1.number (first_array arrays p.0.number) (number_same p.0.number p.0.number refl)
  first_array_some (p ∷ arrays) (suc i) d lt =
      let k = first_array_some arrays i d (omega arith) in
      some_there (nat_eq p.0.number (slice_index_or arrays i d).0.number) p.1.number k.0 (first_array arrays (slice_index_or arrays i d).0.number) k.1

-- ---- all of it

module _ (nodes : List Node) (bits : List (TermId × TermId)) (arrays : List (ArrayId × ArrayId)) (once : EqualTermsAreOne nodes) (array_once : EqualArraysAreOne nodes) (hb : All (Replaces nodes) bits) (ha : All (ReplacesArray nodes) arrays) where
  -- what is known at first
  pub knows_pairs : (known : Known) → ((n : ℕ) → number_for known.terms n ≡ first_term bits n) → ((n : ℕ) → number_for known.arrays n ≡ first_array arrays n) → Knows nodes (replacements nodes bits arrays) known
  knows_pairs known terms more = record {
    typed = record {
      terms = All-map (λ (p : Text × Tree). IsTyped p.1) (named nodes) bits (All-weaker (Replaces nodes) (λ p. IsTyped (named nodes p).1) (λ p h. h.2) bits hb);
      arrays = All-map (λ (p : Text × ArrayTree). IsTypedArray p.1) (named_array nodes) arrays (All-weaker (ReplacesArray nodes) (λ p. IsTypedArray (named_array nodes p).1) (λ p h. h.2) arrays ha);
    };
    terms = λ n r e. first_stands nodes once bits arrays n r hb (sym (terms n) ∙ e);
    arrays = λ n r e. first_array_stands nodes array_once bits arrays n r ha (sym (more n) ∙ e);
    variables =
        All-map (λ (p : Text × Tree). (n r : ℕ) × (term_at nodes n ≡ var p.0 (width_of p.1)) × (number_for known.terms n ≡ Some r)) (named nodes) bits
        (λ i d lt.
        let p = slice_index_or bits i d in
        let s = first_some nodes once bits i d lt in
        (p.0.number, s.0, pair_name nodes once p (hb i d lt), terms p.0.number ∙ s.1));
    array_variables =
        All-map (λ (p : Text × ArrayTree). (n r : ℕ) × (array_at nodes n ≡ array p.0) × (number_for known.arrays n ≡ Some r)) (named_array nodes) arrays
        (λ i d lt.
        let p = slice_index_or arrays i d in
        let s = first_array_some nodes array_once arrays i d lt in
        (p.0.number, s.0, array_name nodes array_once p (ha i d lt), more p.0.number ∙ s.1));
  }

-- ---- along a list that grows

module _ (old new : List Node) (once : EqualTermsAreOne old) (k : Keeps old new) where
  named_stay : (bits : List (TermId × TermId)) → All (Replaces old) bits → map (named new) bits ≡ map (named old) bits
  named_stay [] h = refl
  named_stay (p ∷ bits) h =
      let g = All-head (Replaces old) p bits h in
      let e = keeps_term old new p.0.number k (pair_typed old once p g) in
      let f = keeps_term old new p.1.number k g.2 in
      let one : named new p ≡ named old p = ap (λ (t : Tree). (name_of_variable t, id_term new p.1)) e ∙ ap (λ (t : Tree). (name_of_variable (id_term old p.0), t)) f in
      ap (λ q. q ∷ map (named new) bits) one ∙ ap (λ (l : List (Text × Tree)). named old p ∷ l) (named_stay bits (All-tail (Replaces old) p bits h))

  arrays_stay : (arrays : List (ArrayId × ArrayId)) → All (ReplacesArray old) arrays → map (named_array new) arrays ≡ map (named_array old) arrays
  arrays_stay [] h = refl
  arrays_stay (p ∷ arrays) h =
      let g = All-head (ReplacesArray old) p arrays h in
      let e = keeps_array old new p.0.number k (subst IsTypedArray (sym g.1) tt) in
      let f = keeps_array old new p.1.number k g.2 in
      let one : named_array new p ≡ named_array old p = ap (λ (t : ArrayTree). (name_of_array t, id_array new p.1)) e ∙ ap (λ (t : ArrayTree). (name_of_array (id_array old p.0), t)) f in
      ap (λ q. q ∷ map (named_array new) arrays) one ∙ ap (λ (l : List (Text × ArrayTree)). named_array old p ∷ l) (arrays_stay arrays (All-tail (ReplacesArray old) p arrays h))

  pub replacements_stay : (bits : List (TermId × TermId)) (arrays : List (ArrayId × ArrayId)) → All (Replaces old) bits → All (ReplacesArray old) arrays → replacements new bits arrays ≡ replacements old bits arrays
  replacements_stay bits arrays hb ha =
      ap (λ (l : List (Text × Tree)). let r : Replacements = record { terms = l; arrays = map (named_array new) arrays } in r) (named_stay bits hb)
      ∙ ap (λ (l : List (Text × ArrayTree)). let r : Replacements = record { terms = map (named old) bits; arrays = l } in r) (arrays_stay arrays ha)
