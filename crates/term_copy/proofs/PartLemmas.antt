-- Parts that are listed one after the other.
use Rattle.std.proofs.Common.{◌≡◌, ℕ, suc, ◌+◌, ◌<◌, List, [], ◌∷◌, ◌++◌, length, map, get_or, drop, cond, refl, ap, sym, ◌∙◌, drop-cons, add-one}
use Rattle.term_tree.specs.declared.term.Term.{Term}
use Rattle.term_tree.specs.Terms.{Tree}
use Rattle.term_copy.specs.Parts.{postorder, all_parts, is_among, first_ones}
use Rattle.term_tree.specs.View.{tree}

-- the new ones of a list and then of another are those of both
pub first_ones-append : (d xs ys : List Tree) → first_ones d (xs ++ ys) ≡ first_ones (first_ones d xs) ys
first_ones-append d [] ys = refl
first_ones-append d (x ∷ xs) ys = first_ones-append (cond (is_among x d) d (d ++ x ∷ [])) xs ys

-- a term behind its one part
pub behind_one : (d e : List Tree) (a t : Tree) → postorder t ≡ postorder a ++ t ∷ [] → e ≡ first_ones d (postorder a) → first_ones e (t ∷ []) ≡ first_ones d (postorder t)
behind_one d e a t is first =
    ap (λ e. first_ones e (t ∷ [])) first
    ∙ sym (first_ones-append d (postorder a) (t ∷ []))
    ∙ ap (first_ones d) (sym is)

-- a term behind its two parts
pub behind_two : (d e f : List Tree) (a b t : Tree) → postorder t ≡ postorder a ++ (postorder b ++ t ∷ []) → e ≡ first_ones d (postorder a) → f ≡ first_ones e (postorder b) → first_ones f (t ∷ []) ≡ first_ones d (postorder t)
behind_two d e f a b t is first second =
    ap (λ f. first_ones f (t ∷ [])) second
    ∙ sym (first_ones-append e (postorder b) (t ∷ []))
    ∙ ap (λ e. first_ones e (postorder b ++ t ∷ [])) first
    ∙ sym (first_ones-append d (postorder a) (postorder b ++ t ∷ []))
    ∙ ap (first_ones d) (sym is)

-- a term behind its three parts
pub behind_three : (d e f g : List Tree) (a b c t : Tree) → postorder t ≡ postorder a ++ (postorder b ++ (postorder c ++ t ∷ [])) → e ≡ first_ones d (postorder a) → f ≡ first_ones e (postorder b) → g ≡ first_ones f (postorder c)
    → first_ones g (t ∷ []) ≡ first_ones d (postorder t)
behind_three d e f g a b c t is first second third =
    ap (λ g. first_ones g (t ∷ [])) third
    ∙ sym (first_ones-append f (postorder c) (t ∷ []))
    ∙ ap (λ f. first_ones f (postorder c ++ t ∷ [])) second
    ∙ sym (first_ones-append e (postorder b) (postorder c ++ t ∷ []))
    ∙ ap (λ e. first_ones e (postorder b ++ (postorder c ++ t ∷ []))) first
    ∙ sym (first_ones-append d (postorder a) (postorder b ++ (postorder c ++ t ∷ [])))
    ∙ ap (first_ones d) (sym is)

-- the parts of the next term, and then of those that are left
pub one_more : (xs : List Term) (i : ℕ) (x : Term) (d e all : List Tree) → x ≡ get_or xs i x → i < length xs → e ≡ first_ones d (postorder (tree x))
    → first_ones d (all_parts (map tree (drop i xs))) ≡ all → first_ones e (all_parts (map tree (drop (i + 1) xs))) ≡ all
one_more xs i x d e all is h added whole =
    let left : drop i xs ≡ x ∷ drop (i + 1) xs = drop-cons xs i x h ∙ ap (λ y. y ∷ drop (suc i) xs) (sym is) ∙ ap (λ n. x ∷ drop n xs) (sym (add-one i)) in
    ap (λ e. first_ones e (all_parts (map tree (drop (i + 1) xs)))) added
    ∙ sym (first_ones-append d (postorder (tree x)) (all_parts (map tree (drop (i + 1) xs))))
    ∙ ap (λ ys. first_ones d (all_parts (map tree ys))) (sym left)
    ∙ whole
