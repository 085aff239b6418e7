-- Places in lists that grow.
use Rattle.std.proofs.Common.{◌≡◌, ℕ, zero, suc, ◌+◌, Bool, true, false, cond, ◌||◌, List, [], ◌∷◌, ◌++◌, length, Some, refl, ap, sym, ◌∙◌, arith}
use Rattle.std.specs.Prelude.{slice_get}
use Rattle.std.specs.List.{list_any}
use Rattle.std.proofs.lemmas.Bool.{or_left, or_right, or_parts}
use Rattle.std.proofs.lemmas.List.Folds.{list_any-append}
use Rattle.term_tree.specs.Terms.{Tree, same_tree}
use Rattle.term_tree.proofs.SameLemmas.{same_is, tree_itself}
use Rattle.term_copy.specs.Parts.{is_among}
use Rattle.axiom_trees.specs.Numbered.{place_of, number_in}

-- the term at a place that passes the test
pub record Found (test : Tree → Bool) (ts : List Tree) : Type 0 where
  pub it : Tree
  pub at : slice_get ts (place_of test ts) ≡ Some it
  pub passes : test it ≡ true

pub found : (test : Tree → Bool) (ts : List Tree) → list_any test ts ≡ true → Found test ts
found test [] h = cc
found test (t ∷ ts) h = by (test t) refl (λ g. found test ts g)
  where
    by : (b : Bool) → test t ≡ b → (list_any test ts ≡ true → Found test ts) → Found test (t ∷ ts)
    by true e rest = record {
      it = t;
      at = ap (λ (c : Bool). slice_get (t ∷ ts) (cond c zero (suc (place_of test ts)))) e;
      passes = e;
    }
    by false e rest =
        let r = rest (sym (ap (λ (c : Bool). c || list_any test ts) e) ∙ h) in
        record {
          it = r.it;
          at = ap (λ (c : Bool). slice_get (t ∷ ts) (cond c zero (suc (place_of test ts)))) e ∙ r.at;
          passes = r.passes;
        }

-- it stays as the list grows
pub place_stays : (test : Tree → Bool) (ts more : List Tree) → list_any test ts ≡ true → place_of test (ts ++ more) ≡ place_of test ts
place_stays test [] more h = cc
place_stays test (t ∷ ts) more h = by (test t) refl (λ g. place_stays test ts more g)
  where
    by : (b : Bool) → test t ≡ b → (list_any test ts ≡ true → place_of test (ts ++ more) ≡ place_of test ts) → cond (test t) zero (suc (place_of test (ts ++ more))) ≡ cond (test t) zero (suc (place_of test ts))
    by true e rest =
        ap (λ (c : Bool). cond c zero (suc (place_of test (ts ++ more)))) e
        ∙ sym (ap (λ (c : Bool). cond c zero (suc (place_of test ts))) e)
    by false e rest =
        ap (λ (n : ℕ). cond (test t) zero (suc n)) (rest (sym (ap (λ (c : Bool). c || list_any test ts) e) ∙ h))

-- that of a new last term
pub place_new : (test : Tree → Bool) (ts : List Tree) (t : Tree) → list_any test ts ≡ false → test t ≡ true → place_of test (ts ++ t ∷ []) ≡ length ts
place_new test [] t h e = ap (λ (c : Bool). cond c zero (suc zero)) e
place_new test (u ∷ ts) t h e =
    let parts = or_parts (test u) (list_any test ts) h in
    ap (λ (c : Bool). cond c zero (suc (place_of test (ts ++ t ∷ [])))) parts.0 ∙ ap suc (place_new test ts t parts.1 e)

-- ---- terms

pub among_grows : (t : Tree) (ts more : List Tree) → is_among t ts ≡ true → is_among t (ts ++ more) ≡ true
among_grows t ts more h = list_any-append (same_tree t) ts more ∙ or_left (is_among t ts) (is_among t more) h

pub among_last : (t : Tree) (ts : List Tree) → is_among t (ts ++ t ∷ []) ≡ true
among_last t ts =
    list_any-append (same_tree t) ts (t ∷ []) ∙ or_right (is_among t ts) (is_among t (t ∷ [])) (or_left (same_tree t t) false (tree_itself t))

pub number_at : (ts : List Tree) (t : Tree) → is_among t ts ≡ true → slice_get ts (number_in ts t) ≡ Some t
number_at ts t h =
    let r = found (same_tree t) ts h in
    r.at ∙ ap Some (sym (same_is t r.it r.passes))

pub among_at : (test : Tree → Bool) (ts : List Tree) (i : ℕ) (t : Tree) → slice_get ts i ≡ Some t → test t ≡ true → list_any test ts ≡ true
among_at test [] i t h e = cc
among_at test (u ∷ ts) zero t h e =
    let same : u ≡ t = cc in
    or_left (test u) (list_any test ts) (ap test same ∙ e)
among_at test (u ∷ ts) (suc i) t h e = or_right (test u) (list_any test ts) (among_at test ts i t h e)
