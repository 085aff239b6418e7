-- Numbers of subterms stay as their list grows.
use Rattle.std.proofs.Common.{◌≡◌, ℕ, zero, suc, true, List, [], ◌∷◌, ◌++◌, map, All, Some, refl, ap, sym, ◌∙◌}
use Rattle.std.specs.Prelude.{slice_get}
use Rattle.std.specs.List.{list_any}
use Rattle.std.proofs.lemmas.List.{map-append}
use Rattle.std.proofs.lemmas.List.Elements.{All-head, All-tail}
use Rattle.term_tree.specs.Terms.{Text, Tree, lit, var, one, two, three, sel, width_of, same_tree}
use Rattle.term_tree.proofs.SameLemmas.{text_itself, tree_itself}
use Rattle.term_copy.specs.Parts.{is_among}
use Rattle.axiom_rules.specs.declared.node.Node.{Node}
use Rattle.axiom_rules.specs.declared.node.Node.TheVariants.{One, Two, Three, Byte}
use Rattle.axiom_rules.specs.declared.node.Sub.{Sub}
use Rattle.axiom_trees.specs.Numbered.{number_in, is_byte_of, array_in, node_in, sub_in}
use Rattle.axiom_trees.proofs.PlaceLemmas.{place_stays, number_at, among_at}
use Rattle.axiom_trees.proofs.ListedLemmas.{Grows}
use Rattle.axiom_trees.specs.Listed.{PartsIn, IsListed}

module _ (d e : List Tree) (g : Grows d e) where
  pub number_stays : (t : Tree) → is_among t d ≡ true → number_in e t ≡ number_in d t
  number_stays t h = ap (λ (l : List Tree). number_in l t) g.is ∙ place_stays (same_tree t) d g.more h

  pub array_stays : (f : Text) → list_any (is_byte_of f) d ≡ true → array_in e f ≡ array_in d f
  array_stays f h = ap (λ (l : List Tree). array_in l f) g.is ∙ place_stays (is_byte_of f) d g.more h

  node_stays : (t : Tree) → PartsIn d t → is_among t d ≡ true → node_in e t ≡ node_in d t
  node_stays (lit b) parts h = refl
  node_stays (var x w) parts h = refl
  node_stays (one op a) parts h = ap (λ (n : ℕ). One op n) (number_stays a parts)
  node_stays (two op a b) parts h =
      ap (λ (n : ℕ). Two op n (number_in e b)) (number_stays a parts.0) ∙ ap (λ (n : ℕ). Two op (number_in d a) n) (number_stays b parts.1)
  node_stays (three op a b c) parts h =
      ap (λ (n : ℕ). Three op n (number_in e b) (number_in e c)) (number_stays a parts.0)
      ∙ ap (λ (n : ℕ). Three op (number_in d a) n (number_in e c)) (number_stays b parts.1)
      ∙ ap (λ (n : ℕ). Three op (number_in d a) (number_in d b) n) (number_stays c parts.2)
  node_stays (sel f i) parts h =
      let t = sel f i in
      ap (λ (n : ℕ). Byte n (number_in e i)) (array_stays f (among_at (is_byte_of f) d (number_in d t) t (number_at d t h) (text_itself f)))
      ∙ ap (λ (n : ℕ). Byte (array_in d f) n) (number_stays i parts)

  subs_stay : (ts : List Tree) → ((i : ℕ) (t : Tree) → slice_get ts i ≡ Some t → node_in e t ≡ node_in d t) → map (sub_in e) ts ≡ map (sub_in d) ts
  subs_stay [] h = refl
  subs_stay (t ∷ ts) h =
      let first : sub_in e t ≡ sub_in d t = ap (λ (node : Node). record { width = width_of t; node = node }) (h zero t refl) in
      ap (λ (s : Sub). s ∷ map (sub_in e) ts) first ∙ ap (λ (l : List Sub). sub_in d t ∷ l) (subs_stay ts (λ i u is. h (suc i) u is))

  pub listed_subs_stay : IsListed d → map (sub_in e) d ≡ map (sub_in d) d
  listed_subs_stay h = subs_stay d (λ i t is. node_stays t (h.parts i t is) (among_at (same_tree t) d i t is (tree_itself t)))

  pub numbers_stay : (ts : List Tree) → All (λ t. is_among t d ≡ true) ts → map (number_in e) ts ≡ map (number_in d) ts
  numbers_stay [] h = refl
  numbers_stay (t ∷ ts) h =
      ap (λ (n : ℕ). n ∷ map (number_in e) ts) (number_stays t (All-head (λ u. is_among u d ≡ true) t ts h))
      ∙ ap (λ (l : List ℕ). number_in d t ∷ l) (numbers_stay ts (All-tail (λ u. is_among u d ≡ true) t ts h))

-- one more subterm
pub subs_more : (d : List Tree) (t : Tree) → IsListed d → map (sub_in (d ++ t ∷ [])) (d ++ t ∷ []) ≡ map (sub_in d) d ++ sub_in (d ++ t ∷ []) t ∷ []
subs_more d t h =
    let e = d ++ t ∷ [] in
    map-append (sub_in e) d (t ∷ [])
    ∙ ap (λ (l : List Sub). l ++ sub_in e t ∷ []) (listed_subs_stay d e (record { more = t ∷ []; is = refl }) h)
