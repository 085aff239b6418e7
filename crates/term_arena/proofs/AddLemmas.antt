-- A node that is added: the list before and after.
use Rattle.std.proofs.Common.{◌≡◌, ℕ, ◌<◌, ◌≤◌, List, [], ◌∷◌, ◌++◌, length, map, Some, ◌⊎◌, inl, inr, ap, sym, ◌∙◌, subst, arith}
use Rattle.std.specs.Prelude.{slice_get, AllPairs, ◌≢◌}
use Rattle.std.specs.Option.{option_map}
use Rattle.std.proofs.lemmas.List.{map-append}
use Rattle.std.proofs.lemmas.Option.{slice_get-map}
use Rattle.term_tree.specs.Terms.{Text, HIGHEST}
use Rattle.term_arena.specs.declared.node.Key.{Key}
use Rattle.term_arena.specs.declared.node.Facts.{Facts}
use Rattle.term_arena.specs.Texts.{Grows}
use Rattle.term_arena.specs.Nodes.{Node, Meaning, of_term, of_array, meaning_by, meanings_of, meaning_at, Keeps}
use Rattle.term_arena.specs.declared.keeping.TheConstants.{LIMIT}
use Rattle.term_arena.specs.Arena.{plain, IsNamed, IsFine, IsTypedMeaning, IsKept, width_in, height_in, arguments}
use Rattle.term_arena.specs.Keeping.{Added, IsIn}
use Rattle.term_arena.proofs.MeaningLemmas.{keeps-append, keeps_itself, meaning_at-get, meaning_by-more, meanings_of-length}
use Rattle.term_arena.proofs.KeyLemmas.{nodes_grown, kept_node}
use Rattle.term_arena.proofs.KeptLemmas.{kept_names, kept_push}

-- ---- more names

module _ (names : List Text) (keys : List Key) (facts : List Facts) (h : IsKept names keys facts) (now : List Node) (v : map (plain names) keys ≡ now) (later : List Text) (g : Grows names later) where
  pub grown_view : map (plain later) keys ≡ now
  grown_view = ap (λ (l : List Text). map (plain l) keys) g.is ∙ nodes_grown names g.more keys h.named ∙ v

  pub grown_kept : AllPairs (λ x y. x ≢ y) later → IsKept later keys facts
  grown_kept once = subst (λ (l : List Text). IsKept l keys facts) (sym g.is) (kept_names names keys facts h g.more (subst (λ (l : List Text). AllPairs (λ x y. x ≢ y) l) g.is once))

-- ---- one more node

fine_from : (m : Meaning) → IsTypedMeaning m → height_in m ≤ HIGHEST → IsFine m
fine_from (of_term t) h l = record { typed = h; low = l }
fine_from (of_array f) h l = record { typed = h; low = l }

module _ (names : List Text) (keys : List Key) (facts : List Facts) (h : IsKept names keys facts) (now : List Node) (v : map (plain names) keys ≡ now)
    (key : Key) (n : Node) (is : plain names key ≡ n) (named : IsNamed (length names) key) (typed : IsTypedMeaning (meaning_by (meanings_of now) n)) (row : Facts) where
  module _ (wide : row.width ≡ width_in (meaning_by (meanings_of now) n)) (high : row.height ≡ height_in (meaning_by (meanings_of now) n)) (args : row.args ≡ arguments key)
      (low : row.height ≤ HIGHEST) (new : List Key) (later : List Facts) (added : Added key row keys new facts later) where
    same : meaning_by (meanings_of (map (plain names) keys)) (plain names key) ≡ meaning_by (meanings_of now) n
    same = ap (λ (l : List Node). meaning_by (meanings_of l) (plain names key)) v ∙ ap (meaning_by (meanings_of now)) is

    pub kept_added : AllPairs (λ x y. x ≢ y) new → length new ≤ LIMIT → IsKept names new later
    kept_added once small =
        elim added [
          | inl e ↦ subst (λ (l : List Key). IsKept names l later) (sym e.0) (subst (IsKept names keys) (sym e.1) h)
          | inr e ↦
              subst (λ (l : List Key). IsKept names l later) (sym e.0) (subst (IsKept names (keys ++ key ∷ [])) (sym e.1)
              (kept_push names keys facts h key row named
              (subst IsFine (sym same) (fine_from (meaning_by (meanings_of now) n) typed (subst (λ (x : ℕ). x ≤ HIGHEST) high low)))
              (wide ∙ ap width_in (sym same)) (high ∙ ap height_in (sym same)) args
              (subst (λ (l : List Key). AllPairs (λ x y. x ≢ y) l) e.0 once) (subst (λ (l : List Key). length l ≤ LIMIT) e.0 small)))
        ]

    pub view_added : (map (plain names) new ≡ now) ⊎ (map (plain names) new ≡ now ++ n ∷ [])
    view_added =
        elim added [
          | inl e ↦ inl (ap (map (plain names)) e.0 ∙ v)
          | inr e ↦ inr (ap (map (plain names)) e.0 ∙ map-append (plain names) keys (key ∷ []) ∙ ap (λ (l : List Node). l ++ plain names key ∷ []) v ∙ ap (λ (m : Node). now ++ m ∷ []) is)
        ]

    pub keeps_added : Keeps now (map (plain names) new)
    keeps_added =
        elim view_added [
          | inl e ↦ subst (Keeps now) (sym e) (keeps_itself now)
          | inr e ↦ subst (Keeps now) (sym e) (keeps-append now (n ∷ []))
        ]

    pub node_added : (i : ℕ) → slice_get new i ≡ Some key → slice_get (map (plain names) new) i ≡ Some n
    node_added i e = slice_get-map (plain names) new i ∙ ap (option_map (plain names)) e ∙ ap Some is

    pub means_added : AllPairs (λ x y. x ≢ y) new → length new ≤ LIMIT → (i : ℕ) → slice_get new i ≡ Some key → meaning_at (map (plain names) new) i ≡ meaning_by (meanings_of now) n
    means_added once small i e =
        let k = kept_added once small in
        meaning_at-get (map (plain names) new) i n k.arena.fine (node_added i e)
        ∙ meaning_by-more (meanings_of now) (meanings_of (map (plain names) new)) n
        (λ j lt.
        let l : j < length now = omega (arith, lt, meanings_of-length now) in
        keeps_added.same j l) typed

  -- a node that isn't kept isn't there
  pub not_there : (IsIn key keys → ⊥) → IsIn n now → ⊥
  not_there fresh e =
      fresh (e.0, kept_node names h.names_once keys key e.0 h.named named (ap (λ (l : List Node). slice_get l e.0) v ∙ e.1 ∙ ap Some (sym is)))
