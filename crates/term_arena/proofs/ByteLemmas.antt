-- The array variable of which a term is a byte, and its node.
use Rattle.std.proofs.Common.{◌≡◌, ℕ, false, List, length, map, get_or, Some, refl, ap, sym, ◌∙◌, subst}
use Rattle.std.specs.Prelude.{slice_get, position}
use Rattle.std.specs.List.{list_any}
use Rattle.std.proofs.lemmas.Option.{slice_get-get_or, slice_get_within, get_or_from_slice_get}
use Rattle.std.proofs.lemmas.List.Quantifiers.{position-Some}
use Rattle.term_tree.specs.Terms.{Text, Tree, sel, array, IsTypedArray}
use Rattle.term_arena.specs.declared.node.TermId.{TermId}
use Rattle.term_arena.specs.declared.node.Key.{Key}
use Rattle.term_arena.specs.declared.node.Key.TheVariants as key
use Rattle.term_arena.specs.declared.node.Facts.{Facts}
use Rattle.term_arena.specs.contracts.node.KeyPartialEq.TheImpl as key_eq
use Rattle.term_arena.specs.Nodes.{Node, array_node, Meaning, of_array, as_term, meaning_by, meaning_at, term_at, array_at}
use Rattle.term_arena.specs.Arena.{name_at, plain, IsNamed, IsKept}
use Rattle.term_arena.proofs.MeaningLemmas.{array_within, array_is}
use Rattle.term_arena.proofs.EqualLemmas.{node_of_meaning}
use Rattle.term_arena.proofs.KeyLemmas.{key_decides, not_kept, kept_node}
use Rattle.term_arena.proofs.ViewLemmas.{arena_now, tree_now, array_tree_now}

-- a key that is found is kept at the place
pub key_found : (key : Key) (keys : List Key) (i : ℕ) → position (key_eq.eq-value.it key) keys ≡ Some i → slice_get keys i ≡ Some key
key_found key keys i e =
    let p = position-Some (key_eq.eq-value.it key) keys i key e in
    slice_get-get_or keys i key p.0 ∙ ap Some (sym ((key_decides key (get_or keys i key)).0 p.1))

module _ (names : List Text) (keys : List Key) (facts : List Facts) (h : IsKept names keys facts) (now : List Node) (v : map (plain names) keys ≡ now)
    (i of : ℕ) (a : TermId) (here : slice_get keys i ≡ Some (key.Sel of a)) (f : Text) (t : Tree) (byte : term_at now i ≡ sel f t) where
  name_is : name_at names of ≡ f
  name_is =
      let e : sel (name_at names of) (term_at now a.number) ≡ sel f t = sym (tree_now names keys facts h now v i (key.Sel of a) here) ∙ byte in
      cc

  pub array_found : (place : ℕ) → slice_get keys place ≡ Some (key.Array of) → array_at now place ≡ array f
  array_found place e = array_tree_now names keys facts h now v place (key.Array of) e ∙ ap array name_is

  named : IsNamed (length names) (key.Sel of a)
  named =
      subst (IsNamed (length names)) (get_or_from_slice_get keys i (key.Sel of a) (key.Sel of a) here) (h.named i (key.Sel of a) (slice_get_within keys i (key.Sel of a) here))

  pub no_array : list_any (key_eq.eq-value.it (key.Array of)) keys ≡ false → (n : ℕ) → array_at now n ≡ array f → ⊥
  no_array none n e =
      let typed : IsTypedArray (array_at now n) = subst IsTypedArray (sym e) tt in
      let ok = arena_now names keys facts h now v in
      let node = node_of_meaning now ok n (array_node f) (array_within now n typed) tt (array_is (meaning_at now n) typed ∙ ap of_array e) in
      let same = ap (λ (l : List Node). slice_get l n) v ∙ node ∙ ap (λ (x : Text). Some (array_node x)) (sym name_is) in
      not_kept (key.Array of) keys none (n, kept_node names h.names_once keys (key.Array of) n h.named named same)

-- the node of a byte is that of a byte
pub byte_key : (ms : List Meaning) (names : List Text) (k : Key) (f : Text) (t : Tree) → as_term (meaning_by ms (plain names k)) ≡ sel f t → ((x : ℕ) (a : TermId) → k ≡ key.Sel x a → ⊥) → ⊥
byte_key ms names (key.Sel x a) f t e n = n x a refl
byte_key ms names k f t e n = let z : ⊥ = cc in z
