-- Equal terms have equal numbers.
use Rattle.std.proofs.Common.{◌≡◌, ℕ, true, false, true≢false, zero, suc, ◌<◌, List, length, Some, inl, inr, refl, ap, sym, ◌∙◌, subst, arith}
use Rattle.std.specs.Prelude.{slice_get, slice_index_or, AllPairs, ◌≢◌}
use Rattle.std.proofs.lemmas.Bool.{cases_lt}
use Rattle.std.proofs.lemmas.Option.{slice_get-get_or}
use Rattle.term_tree.specs.Terms.{IsTyped, IsTypedArray}
use Rattle.term_arena.specs.Nodes.{Node, lit_node, var_node, one_node, two_node, three_node, sel_node, array_node, upd_node, splice_node, Meaning, of_term, of_array, as_term, as_array, place, meaning_by, meanings_of, meaning_at, term_at, array_at}
use Rattle.term_arena.specs.Arena.{IsArena, IsTypedMeaning}
use Rattle.term_arena.specs.Numbers.{PartsIn}
use Rattle.term_arena.specs.Keeping.{is_term_node, TypedAreNamed, TypedArraysAreNamed}
use Rattle.term_arena.proofs.MeaningLemmas.{place_within, array_place_within, term_within, array_within, term_is, array_is, blank_untyped, blank_array_untyped, fine_typed, before, before_typed, meaning_at-get}

-- the parts of a typed node are in the list
pub parts_within : (ms : List Meaning) (n : Node) → IsTypedMeaning (meaning_by ms n) → PartsIn (λ a. a < length ms) n
parts_within ms (lit_node b) h = tt
parts_within ms (var_node x w) h = tt
parts_within ms (one_node op a) h = place_within ms a h.1
parts_within ms (two_node op a b) h = (place_within ms a h.1, place_within ms b h.2)
parts_within ms (three_node op a b c) h = (place_within ms a h.1, place_within ms b h.2, place_within ms c h.3)
parts_within ms (sel_node f i) h = place_within ms i h.1
parts_within ms (array_node f) h = tt
parts_within ms (upd_node of i e) h = (array_place_within ms of h.0, place_within ms i h.1.1, place_within ms e h.2.1)
parts_within ms (splice_node of below i) h = (array_place_within ms of h.0, array_place_within ms below h.1, place_within ms i h.2.1)

module _ (ms : List Meaning) (Low : ℕ → Type 0) (terms : (a b : ℕ) → Low a → IsTyped (as_term (place ms a)) → as_term (place ms a) ≡ as_term (place ms b) → a ≡ b) (arrays : (a b : ℕ) → Low a → IsTypedArray (as_array (place ms a)) → as_array (place ms a) ≡ as_array (place ms b) → a ≡ b) where
  -- nodes that stand for the same are the same, where this holds of their parts
  equal_nodes : (m n : Node) → PartsIn Low m → IsTypedMeaning (meaning_by ms m) → meaning_by ms m ≡ meaning_by ms n → m ≡ n
  equal_nodes (lit_node a) (lit_node b) l h e = let x : a ≡ b = cc in ap lit_node x
  equal_nodes (var_node x w) (var_node y v) l h e = let p : x ≡ y = cc in let q : w ≡ v = cc in cc
  equal_nodes (one_node o a) (one_node p b) l h e =
      let x : o ≡ p = cc in
      let y : as_term (place ms a) ≡ as_term (place ms b) = cc in
      let z = terms a b l h.1 y in
      cc
  equal_nodes (two_node o a b) (two_node p c d) l h e =
      let x : o ≡ p = cc in
      let y : as_term (place ms a) ≡ as_term (place ms c) = cc in
      let z : as_term (place ms b) ≡ as_term (place ms d) = cc in
      let f = terms a c l.0 h.1 y in
      let g = terms b d l.1 h.2 z in
      cc
  equal_nodes (three_node o a b c) (three_node p d t u) l h e =
      let x : o ≡ p = cc in
      let y : as_term (place ms a) ≡ as_term (place ms d) = cc in
      let z : as_term (place ms b) ≡ as_term (place ms t) = cc in
      let w : as_term (place ms c) ≡ as_term (place ms u) = cc in
      let f = terms a d l.0 h.1 y in
      let g = terms b t l.1 h.2 z in
      let k = terms c u l.2 h.3 w in
      cc
  equal_nodes (sel_node x i) (sel_node y j) l h e =
      let p : x ≡ y = cc in
      let q : as_term (place ms i) ≡ as_term (place ms j) = cc in
      let f = terms i j l h.1 q in
      cc
  equal_nodes (array_node x) (array_node y) l h e = let p : x ≡ y = cc in ap array_node p
  equal_nodes (upd_node of i b) (upd_node to j c) l h e =
      let x : as_array (place ms of) ≡ as_array (place ms to) = cc in
      let y : as_term (place ms i) ≡ as_term (place ms j) = cc in
      let z : as_term (place ms b) ≡ as_term (place ms c) = cc in
      let f = arrays of to l.0 h.0 x in
      let g = terms i j l.1 h.1.1 y in
      let k = terms b c l.2 h.2.1 z in
      cc
  equal_nodes (splice_node of below i) (splice_node to under j) l h e =
      let x : as_array (place ms of) ≡ as_array (place ms to) = cc in
      let y : as_array (place ms below) ≡ as_array (place ms under) = cc in
      let z : as_term (place ms i) ≡ as_term (place ms j) = cc in
      let f = arrays of to l.0 h.0 x in
      let g = arrays below under l.1 h.1 y in
      let k = terms i j l.2 h.2.1 z in
      cc
  equal_nodes m n l h e = absurd (let x : ⊥ = cc in x)

-- each node stands at one place
once : (nodes : List Node) (i j : ℕ) (d : Node) → AllPairs (λ x y. x ≢ y) nodes → i < length nodes → j < length nodes → slice_index_or nodes i d ≡ slice_index_or nodes j d → i ≡ j
once nodes i j d all hi hj e =
    elim (cases_lt i j) [
      | inl lt ↦ absurd (all i j d lt hj e)
      | inr ge ↦ elim (cases_lt j i) [
        | inl lt ↦ absurd (all j i d lt hi (sym e))
        | inr ge' ↦ omega arith
      ]
    ]

none : Node
none = lit_node (record { width = 0; value = 0 })

module _ (nodes : List Node) (ok : IsArena nodes) where
  node_here : (i : ℕ) → i < length nodes → slice_get nodes i ≡ Some (slice_index_or nodes i none)
  node_here i lt = slice_get-get_or nodes i none lt

  means : (i : ℕ) → i < length nodes → meaning_at nodes i ≡ meaning_by (meanings_of nodes) (slice_index_or nodes i none)
  means i lt = meaning_at-get nodes i (slice_index_or nodes i none) ok.fine (node_here i lt)

  typed_here : (i : ℕ) → i < length nodes → IsTypedMeaning (meaning_by (meanings_of nodes) (slice_index_or nodes i none))
  typed_here i lt =
      let b = before nodes i (slice_index_or nodes i none) (node_here i lt) in
      subst IsTypedMeaning (means i lt) (fine_typed (meaning_at nodes i) (ok.fine i _ b.within))

  parts_here : (i : ℕ) → i < length nodes → PartsIn (λ a. a < i) (slice_index_or nodes i none)
  parts_here i lt =
      let b = before nodes i (slice_index_or nodes i none) (node_here i lt) in
      subst (λ (k : ℕ). PartsIn (λ a. a < k) (slice_index_or nodes i none)) b.long
      (parts_within b.done (slice_index_or nodes i none) (before_typed nodes i (slice_index_or nodes i none) ok.fine b))

  -- the parts of a node stand before it
  pub parts_below : (i : ℕ) (n : Node) → slice_get nodes i ≡ Some n → PartsIn (λ a. a < i) n
  parts_below i n e =
      let b = before nodes i n e in
      subst (λ (k : ℕ). PartsIn (λ a. a < k) n) b.long (parts_within b.done n (before_typed nodes i n ok.fine b))

  numbers : (k i j : ℕ) → i < k → i < length nodes → j < length nodes → meaning_at nodes i ≡ meaning_at nodes j → i ≡ j
  numbers zero i j l hi hj e = absurd (omega arith)
  numbers (suc k) i j l hi hj e =
      once nodes i j none ok.once hi hj
      (equal_nodes (meanings_of nodes) (λ a. a < i)
      (λ a b lt h q.
      let la : a < k = omega arith in
      numbers k a b la (term_within nodes a h) (term_within nodes b (subst IsTyped q h))
      (term_is (meaning_at nodes a) h ∙ ap of_term q ∙ sym (term_is (meaning_at nodes b) (subst IsTyped q h))))
      (λ a b lt h q.
      let la : a < k = omega arith in
      numbers k a b la (array_within nodes a h) (array_within nodes b (subst IsTypedArray q h))
      (array_is (meaning_at nodes a) h ∙ ap of_array q ∙ sym (array_is (meaning_at nodes b) (subst IsTypedArray q h))))
      (slice_index_or nodes i none) (slice_index_or nodes j none) (parts_here i hi) (typed_here i hi)
      (sym (means i hi) ∙ e ∙ means j hj))

  -- the node of a number is the one that stands for the same
  pub node_of_meaning : (i : ℕ) (n : Node) → i < length nodes → IsTypedMeaning (meaning_by (meanings_of nodes) n) → meaning_at nodes i ≡ meaning_by (meanings_of nodes) n → slice_get nodes i ≡ Some n
  node_of_meaning i n lt t e =
      node_here i lt ∙ ap Some
      (equal_nodes (meanings_of nodes) (λ a. a < i)
      (λ a b l h q.
      let la : a < length nodes = omega arith in
      numbers (length nodes) a b la la (term_within nodes b (subst IsTyped q h))
      (term_is (meaning_at nodes a) h ∙ ap of_term q ∙ sym (term_is (meaning_at nodes b) (subst IsTyped q h))))
      (λ a b l h q.
      let la : a < length nodes = omega arith in
      numbers (length nodes) a b la la (array_within nodes b (subst IsTypedArray q h))
      (array_is (meaning_at nodes a) h ∙ ap of_array q ∙ sym (array_is (meaning_at nodes b) (subst IsTypedArray q h))))
      (slice_index_or nodes i none) n (parts_here i lt) (typed_here i lt)
      (sym (means i lt) ∙ e))

  -- equal terms have equal numbers
  pub equal_terms : (i j : ℕ) → IsTyped (term_at nodes i) → term_at nodes i ≡ term_at nodes j → i ≡ j
  equal_terms i j h q =
      numbers (suc i) i j (omega arith) (term_within nodes i h) (term_within nodes j (subst IsTyped q h))
      (term_is (meaning_at nodes i) h ∙ ap of_term q ∙ sym (term_is (meaning_at nodes j) (subst IsTyped q h)))

  -- and so have equal array terms
  pub equal_arrays : (i j : ℕ) → IsTypedArray (array_at nodes i) → array_at nodes i ≡ array_at nodes j → i ≡ j
  equal_arrays i j h q =
      numbers (suc i) i j (omega arith) (array_within nodes i h) (array_within nodes j (subst IsTypedArray q h))
      (array_is (meaning_at nodes i) h ∙ ap of_array q ∙ sym (array_is (meaning_at nodes j) (subst IsTypedArray q h)))

-- ---- numbers of nodes of a kind

kind_term : (ms : List Meaning) (n : Node) → is_term_node n ≡ true → IsTypedMeaning (meaning_by ms n) → IsTyped (as_term (meaning_by ms n))
kind_term ms (array_node f) k h = absurd (true≢false (sym k))
kind_term ms (upd_node of i e) k h = absurd (true≢false (sym k))
kind_term ms (splice_node of below i) k h = absurd (true≢false (sym k))
kind_term ms n k h = h

term_kind : (ms : List Meaning) (n : Node) → IsTyped (as_term (meaning_by ms n)) → is_term_node n ≡ true
term_kind ms (array_node f) h = absurd (blank_untyped h)
term_kind ms (upd_node of i e) h = absurd (blank_untyped h)
term_kind ms (splice_node of below i) h = absurd (blank_untyped h)
term_kind ms n h = refl

kind_array : (ms : List Meaning) (n : Node) → is_term_node n ≡ false → IsTypedMeaning (meaning_by ms n) → IsTypedArray (as_array (meaning_by ms n))
kind_array ms (array_node f) k h = h
kind_array ms (upd_node of i e) k h = h
kind_array ms (splice_node of below i) k h = h
kind_array ms n k h = absurd (true≢false k)

array_kind : (ms : List Meaning) (n : Node) → IsTypedArray (as_array (meaning_by ms n)) → is_term_node n ≡ false
array_kind ms (array_node f) h = refl
array_kind ms (upd_node of i e) h = refl
array_kind ms (splice_node of below i) h = refl
array_kind ms n h = absurd (blank_array_untyped h)

module _ (nodes : List Node) (ok : IsArena nodes) where
  node_means : (i : ℕ) (n : Node) → slice_get nodes i ≡ Some n → IsTypedMeaning (meaning_by (meanings_of nodes) n)
  node_means i n e =
      let b = before nodes i n e in
      subst IsTypedMeaning (meaning_at-get nodes i n ok.fine e) (fine_typed (meaning_at nodes i) (ok.fine i _ b.within))

  pub typed_named : TypedAreNamed nodes
  typed_named i = (
    (λ t.
        let lt = term_within nodes i t in
        let n = slice_index_or nodes i none in
        let e = slice_get-get_or nodes i none lt in
        (n, e, term_kind (meanings_of nodes) n (subst (λ (m : Meaning). IsTyped (as_term m)) (meaning_at-get nodes i n ok.fine e) t))),
    (λ p. subst (λ (m : Meaning). IsTyped (as_term m)) (sym (meaning_at-get nodes i p.0 ok.fine p.1)) (kind_term (meanings_of nodes) p.0 p.2 (node_means i p.0 p.1))),
  )

  pub typed_arrays_named : TypedArraysAreNamed nodes
  typed_arrays_named i = (
    (λ t.
        let lt = array_within nodes i t in
        let n = slice_index_or nodes i none in
        let e = slice_get-get_or nodes i none lt in
        (n, e, array_kind (meanings_of nodes) n (subst (λ (m : Meaning). IsTypedArray (as_array m)) (meaning_at-get nodes i n ok.fine e) t))),
    (λ p. subst (λ (m : Meaning). IsTypedArray (as_array m)) (sym (meaning_at-get nodes i p.0 ok.fine p.1)) (kind_array (meanings_of nodes) p.0 p.2 (node_means i p.0 p.1))),
  )
