-- What is kept fits together, also after a node is added.
use Rattle.std.proofs.Common.{◌≡◌, ℕ, ◌<◌, ◌≤◌, List, [], ◌∷◌, ◌++◌, length, map, Some, ap, sym, ◌∙◌, subst, arith, length-append}
use Rattle.std.specs.Prelude.{slice_get, slice_index_or, All, AllPairs, ◌≢◌}
use Rattle.std.proofs.lemmas.List.{length-map, map-append, get_or-map}
use Rattle.std.proofs.lemmas.List.Elements.{All-nil, All-cons, All-append}
use Rattle.std.proofs.lemmas.Option.{slice_get-map, get_or_from_slice_get}
use Rattle.std.specs.Option.{option_map}
use Rattle.term_tree.specs.Terms.{Text, blank, IsTyped, IsTypedArray, HIGHEST}
use Rattle.term_arena.specs.declared.node.Key.{Key}
use Rattle.term_arena.specs.declared.node.Facts.{Facts}
use Rattle.term_arena.specs.Nodes.{Node, Meaning, of_term, meaning_by, meanings_of, meaning_at, term_at, array_at, of_array}
use Rattle.term_arena.specs.declared.keeping.TheConstants.{LIMIT}
use Rattle.term_arena.specs.Arena.{plain, IsNamed, IsArena, IsFine, IsKept, width_in, height_in, arguments}
use Rattle.term_arena.proofs.MeaningLemmas.{meanings_of-length, meanings_of-push, meaning_at-get, term_within, array_within}
use Rattle.term_arena.proofs.KeyLemmas.{nodes_grown, named_grown, nodes_once}

-- ---- what is known of a node

module _ (names : List Text) (keys : List Key) (facts : List Facts) (h : IsKept names keys facts) where
  nodes : List Node
  nodes = map (plain names) keys

  pub facts_length : length facts ≡ length keys
  facts_length =
      sym (length-map facts (λ r. r.args)) ∙ ap length h.args ∙ length-map keys arguments

  module _ (i : ℕ) (d : Facts) (lt : i < length keys) where
    within : i < length facts
    within = omega (arith, facts_length)

    meant : i < length (meanings_of (map (plain names) keys))
    meant = omega (arith, meanings_of-length (map (plain names) keys), length-map keys (plain names))

    pub width_here : (slice_index_or facts i d).width ≡ width_in (meaning_at (map (plain names) keys) i)
    width_here =
        sym (get_or-map (λ r. r.width) facts i d 0 within) ∙ ap (λ l. slice_index_or l i 0) h.widths
        ∙ get_or-map width_in (meanings_of (map (plain names) keys)) i (of_term blank) 0 meant

    pub height_here : (slice_index_or facts i d).height ≡ height_in (meaning_at (map (plain names) keys) i)
    height_here =
        sym (get_or-map (λ r. r.height) facts i d 0 within) ∙ ap (λ l. slice_index_or l i 0) h.heights
        ∙ get_or-map height_in (meanings_of (map (plain names) keys)) i (of_term blank) 0 meant

    pub args_here : (k : Key) → slice_get keys i ≡ Some k → (slice_index_or facts i d).args ≡ arguments k
    args_here k e =
        sym (get_or-map (λ r. r.args) facts i d [] within) ∙ ap (λ l. slice_index_or l i []) h.args
        ∙ get_or-map arguments keys i k [] lt ∙ ap arguments (get_or_from_slice_get keys i k k e)

  -- what a kept node stands for
  pub key_means : (i : ℕ) (k : Key) → slice_get keys i ≡ Some k → meaning_at (map (plain names) keys) i ≡ meaning_by (meanings_of (map (plain names) keys)) (plain names k)
  key_means i k e =
      meaning_at-get (map (plain names) keys) i (plain names k) h.arena.fine (slice_get-map (plain names) keys i ∙ ap (option_map (plain names)) e)

  -- the number of a typed term is that of a kept node
  pub key_within : (i : ℕ) → IsTyped (term_at (map (plain names) keys) i) → i < length keys
  key_within i t = omega (arith, term_within (map (plain names) keys) i t, length-map keys (plain names))

  pub array_key_within : (i : ℕ) → IsTypedArray (array_at (map (plain names) keys) i) → i < length keys
  array_key_within i t = omega (arith, array_within (map (plain names) keys) i t, length-map keys (plain names))

  fine_low : (m : Meaning) → IsFine m → height_in m ≤ HIGHEST
  fine_low (of_term t) f = f.low
  fine_low (of_array f) g = g.low

  pub low_here : (i : ℕ) → i < length keys → height_in (meaning_at (map (plain names) keys) i) ≤ HIGHEST
  low_here i lt =
      fine_low (meaning_at (map (plain names) keys) i) (h.arena.fine i (of_term blank) (omega (arith, lt, meanings_of-length (map (plain names) keys), length-map keys (plain names))))

-- ---- a node is added

module _ (names : List Text) (keys : List Key) (facts : List Facts) (h : IsKept names keys facts) (more : List Text) where
  -- more names
  pub kept_names : AllPairs (λ x y. x ≢ y) (names ++ more) → IsKept (names ++ more) keys facts
  kept_names once = record {
    arena = subst IsArena (sym (nodes_grown names more keys h.named)) h.arena;
    names_once = once;
    named = λ k d lt. named_grown (length names) (length (names ++ more)) (slice_index_or keys k d) (omega (arith, length-append names more)) (h.named k d lt);
    widths = h.widths ∙ ap (λ l. map width_in (meanings_of l)) (sym (nodes_grown names more keys h.named));
    heights = h.heights ∙ ap (λ l. map height_in (meanings_of l)) (sym (nodes_grown names more keys h.named));
    args = h.args;
  }

module _ (names : List Text) (keys : List Key) (facts : List Facts) (h : IsKept names keys facts) (key : Key) (row : Facts) where
  -- one more node
  pub kept_push : IsNamed (length names) key → IsFine (meaning_by (meanings_of (map (plain names) keys)) (plain names key))
      → row.width ≡ width_in (meaning_by (meanings_of (map (plain names) keys)) (plain names key))
      → row.height ≡ height_in (meaning_by (meanings_of (map (plain names) keys)) (plain names key))
      → row.args ≡ arguments key → AllPairs (λ x y. x ≢ y) (keys ++ key ∷ []) → length (keys ++ key ∷ []) ≤ LIMIT
      → IsKept names (keys ++ key ∷ []) (facts ++ row ∷ [])
  kept_push named fine wide high args once small =
      let ms = meanings_of (map (plain names) keys) in
      let m = meaning_by ms (plain names key) in
      let all : All (IsNamed (length names)) (keys ++ key ∷ []) = All-append (IsNamed (length names)) keys (key ∷ []) h.named (All-cons (IsNamed (length names)) key [] named (All-nil (IsNamed (length names)))) in
      let pushed : meanings_of (map (plain names) (keys ++ key ∷ [])) ≡ ms ++ m ∷ [] = ap meanings_of (map-append (plain names) keys (key ∷ [])) ∙ meanings_of-push (map (plain names) keys) (plain names key) in
      record {
        arena = record {
          small = omega (arith, small, length-map (keys ++ key ∷ []) (plain names));
          once = nodes_once names h.names_once (keys ++ key ∷ []) all once;
          fine = subst (All IsFine) (sym pushed) (All-append IsFine ms (m ∷ []) h.arena.fine (All-cons IsFine m [] fine (All-nil IsFine)));
        };
        names_once = h.names_once;
        named = all;
        widths = map-append (λ r. r.width) facts (row ∷ []) ∙ ap (λ l. l ++ row.width ∷ []) h.widths ∙ ap (λ w. map width_in ms ++ w ∷ []) wide
            ∙ sym (ap (map width_in) pushed ∙ map-append width_in ms (m ∷ []));
        heights = map-append (λ r. r.height) facts (row ∷ []) ∙ ap (λ l. l ++ row.height ∷ []) h.heights ∙ ap (λ w. map height_in ms ++ w ∷ []) high
            ∙ sym (ap (map height_in) pushed ∙ map-append height_in ms (m ∷ []));
        args = map-append (λ r. r.args) facts (row ∷ []) ∙ ap (λ l. l ++ row.args ∷ []) h.args ∙ ap (λ w. map arguments keys ++ w ∷ []) args
            ∙ sym (map-append arguments keys (key ∷ []));
      }
