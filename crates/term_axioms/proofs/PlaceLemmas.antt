-- Numbers of terms, and the terms.
use Rattle.std.proofs.Common.{◌≡◌, ℕ, suc, ◌+◌, ◌<◌, ◌≤◌, ◌^◌, Bool, true, false, cond, ◌||◌, not, Some, All, length, arith, List, [], ◌∷◌, ◌++◌, refl, ap, sym, ◌∙◌, subst}
use Rattle.std.specs.Prelude.{nat_eq, slice_get}
use Rattle.std.specs.List.{list_any, position_or_len, IsDistinct}
use Rattle.std.proofs.lemmas.Bool.{eqb-true, eq-eqb}
use Rattle.std.proofs.lemmas.List.{map-append}
use Rattle.std.proofs.lemmas.List.Elements.{All-nil, All-cons, All-head, All-tail}
use Rattle.std.proofs.lemmas.Map.Steps.{length-le_from_distinct_below}
use Rattle.indexmap.specs.IndexSet.{insert_key}
use Rattle.term_tree.specs.Terms.{Tree, IsTyped, same_tree}
use Rattle.term_tree.proofs.SameLemmas.{same_is, tree_itself}
use Rattle.term_arena.specs.Nodes.{Node, term_at}
use Rattle.term_arena.specs.Arena.{IsArena}
use Rattle.term_arena.proofs.MeaningLemmas.{term_within}
use Rattle.term_arena.specs.Keeping.{EqualTermsAreOne}
use Rattle.term_copy.specs.Parts.{is_among, first_ones}
use Rattle.axiom_trees.specs.Listed.{IsListed}
use Rattle.axiom_trees.specs.Numbered.{number_in}
use Rattle.term_axioms.specs.Listing.{trees}

both : (b c : Bool) → (b ≡ true → c ≡ true) → (c ≡ true → b ≡ true) → b ≡ c
both true c h g = sym (h refl)
both false true h g = g refl
both false false h g = refl

turn : (b : Bool) (m n : ℕ) → m ≡ n → cond (not b) (1 + m) 0 ≡ cond b 0 (suc n)
turn true m n e = refl
turn false m n e = omega (arith, e)

module _ (nodes : List Node) (one : EqualTermsAreOne nodes) (i : ℕ) (typed : IsTyped (term_at nodes i)) where
  same_number : (k : ℕ) → nat_eq i k ≡ same_tree (term_at nodes i) (term_at nodes k)
  same_number k =
      both (nat_eq i k) (same_tree (term_at nodes i) (term_at nodes k))
      (λ h. let e : i ≡ k = eqb-true i k h in subst (λ (n : ℕ). same_tree (term_at nodes i) (term_at nodes n) ≡ true) e (tree_itself (term_at nodes i)))
      (λ h. let e : i ≡ k = one i k typed (same_is (term_at nodes i) (term_at nodes k) h) in eq-eqb i k e)

  pub among_ids : (ids : List ℕ) → list_any (nat_eq i) ids ≡ is_among (term_at nodes i) (trees nodes ids)
  among_ids [] = refl
  among_ids (k ∷ ids) =
      ap (λ (b : Bool). b || list_any (nat_eq i) ids) (same_number k)
      ∙ ap (λ (b : Bool). same_tree (term_at nodes i) (term_at nodes k) || b) (among_ids ids)

  pub place_is : (ids : List ℕ) → position_or_len (nat_eq i) ids ≡ number_in (trees nodes ids) (term_at nodes i)
  place_is [] = refl
  place_is (k ∷ ids) =
      ap (λ (b : Bool). cond (not b) (1 + position_or_len (nat_eq i) ids) 0) (same_number k)
      ∙ turn (same_tree (term_at nodes i) (term_at nodes k)) (position_or_len (nat_eq i) ids) (number_in (trees nodes ids) (term_at nodes i)) (place_is ids)

  pub added : (ids : List ℕ) → trees nodes (insert_key nat_eq ids i) ≡ first_ones (trees nodes ids) (term_at nodes i ∷ [])
  added ids = by (list_any (nat_eq i) ids) ∙ ap (λ (b : Bool). cond b (trees nodes ids) (trees nodes ids ++ term_at nodes i ∷ [])) (among_ids ids)
    where
      by : (b : Bool) → trees nodes (cond b ids (ids ++ i ∷ [])) ≡ cond b (trees nodes ids) (trees nodes ids ++ term_at nodes i ∷ [])
      by true = refl
      by false = map-append (term_at nodes) ids (i ∷ [])

-- ---- few numbers

among_below : (n : ℕ) (ids : List ℕ) → All (λ i. i < n) ids → (q : ℕ) → list_any (nat_eq q) ids ≡ true → q < n
among_below n [] h q e = cc
among_below n (i ∷ ids) h q e = by (nat_eq q i) refl (among_below n ids (All-tail (λ k. k < n) i ids h) q)
  where
    by : (b : Bool) → nat_eq q i ≡ b → (list_any (nat_eq q) ids ≡ true → q < n) → q < n
    by true same rest = subst (λ (k : ℕ). k < n) (sym (eqb-true q i same)) (All-head (λ k. k < n) i ids h)
    by false other rest = rest (sym (ap (λ (b : Bool). b || list_any (nat_eq q) ids) other) ∙ e)

pub few_places : (n : ℕ) (ids : List ℕ) → IsDistinct nat_eq ids → All (λ i. i < n) ids → length ids ≤ n
few_places n ids once h = length-le_from_distinct_below ids n once (among_below n ids h)

-- listed terms have numbers below 2^32
pub few_listed : (nodes : List Node) (ids : List ℕ) → IsArena nodes → IsListed (trees nodes ids) → All (λ i. i < 2 ^ 32) ids
few_listed nodes ids ok listed = by ids (λ i t e. listed.typed i t e)
  where
    by : (xs : List ℕ) → ((i : ℕ) (t : Tree) → slice_get (trees nodes xs) i ≡ Some t → IsTyped t) → All (λ i. i < 2 ^ 32) xs
    by [] each = All-nil (λ i. i < 2 ^ 32)
    by (x ∷ xs) each = All-cons (λ i. i < 2 ^ 32) x xs (omega (arith, term_within nodes x (each 0 (term_at nodes x) refl), ok.small)) (by xs (λ i t e. each (suc i) t e))
