-- What the code that replaces variables owes: what stands for a variable is a term, and values are those with the
-- replacements' values.
use Rattle.std.proofs.Common.{◌≡◌, ℕ, ◌<◌, ◌≤◌, true, List, [], length, map, get_or, drop, refl, ap, sym, ◌∙◌, subst, arith}
use Rattle.std.specs.Prelude.{All, IfOk, Result, Ok, Err, bytes_eq}
use Rattle.std.proofs.lemmas.List.{get_or-map, length-map, drop_all}
use Rattle.std.proofs.lemmas.List.Elements.{All-get_or, All-weaker}
use Rattle.term_tree.specs.declared.term.Term.{Term}
use Rattle.term_tree.specs.declared.term.ArrayTerm.{ArrayTerm}
use Rattle.term_tree.specs.declared.term.TermFault.{TermFault}
use Rattle.term_tree.specs.View.{tree, array_tree}
use Rattle.term_tree.specs.Terms.{Text, Tree, var, ArrayTree, array, width_of, IsTyped, IsTypedArray, IsTerm, IsArrayTerm}
use Rattle.term_tree.specs.Values.{Values, IsValues, value, byte_at}
use Rattle.term_replace.specs.Replacing.{Replacements, replaced_var, replaced_array, substitute, substitute_array, Fits, FitsArray, replaced_values}
use Rattle.term_replace.specs.Replaced.{replacements, AreTerms}
use Rattle.term_replace.specs.Laws.{AreTyped}
use Rattle.term_make.specs.Answers.{Answers}
use Rattle.term_make.proofs.AnswerLemmas.{within_is}
use Rattle.term_tree.proofs.FoundLemmas.{found}
use Rattle.term_replace.proofs.ReplaceLemmas.{substitute_value, substitute_byte}

-- ---- a list's item, and its end

-- what all of a mapped list have, an item has
pub item_has : {A B : Type 0} (f : A → B) (P : B → Type 0) (xs : List A) (i : ℕ) (x : A) → x ≡ get_or xs i x → i < length xs → All P (map f xs) → P (f x)
item_has f P xs i x is h all =
    let e : get_or (map f xs) i (f x) ≡ f x = get_or-map f xs i x (f x) h ∙ ap f (sym is) in
    let k : i < length (map f xs) = omega (arith, length-map xs f) in
    subst P e (All-get_or P (map f xs) i (f x) k all)

-- no replacement is left
pub none_left : (bits : List (Text × Term)) (i : ℕ) (x : Text) (w : ℕ) → length bits ≤ i → var x w ≡ replaced_var (replacements (drop i bits) []) x w
none_left bits i x w h = rw (drop_all i bits h) refl

-- ---- replacements are typed

pub are_typed : (by : Replacements) → AreTerms by → AreTyped by
are_typed by h = record {
  terms = All-weaker (λ p. IsTerm p.1) (λ p. IsTyped p.1) (λ p k. k.typed) by.terms h.terms;
  arrays = All-weaker (λ p. IsArrayTerm p.1) (λ p. IsTypedArray p.1) (λ p k. k.typed) by.arrays h.arrays;
}

-- what stands for a variable is a term, as wide
pub var_term : (by : Replacements) (x : Text) (w : ℕ) → AreTerms by → Fits by (var x w) → IsTyped (var x w) → IsTerm (replaced_var by x w) × (width_of (replaced_var by x w) ≡ w)
var_term by x w ok f h = (
  found IsTerm (λ p. bytes_eq p.0 x) (λ p. p.1) by.terms (var x w) (All-weaker (λ p. IsTerm p.1) (λ p. bytes_eq p.0 x ≡ true → IsTerm p.1) (λ p k same. k) by.terms ok.terms) (record { typed = h; low = omega arith }),
  found (λ t. width_of t ≡ w) (λ p. bytes_eq p.0 x) (λ p. p.1) by.terms (var x w) f refl,
)

-- what stands for an array variable is an array term
pub array_term : (by : Replacements) (f : Text) → AreTerms by → IsArrayTerm (replaced_array by f)
array_term by f ok =
    found IsArrayTerm (λ p. bytes_eq p.0 f) (λ p. p.1) by.arrays (array f) (All-weaker (λ p. IsArrayTerm p.1) (λ p. bytes_eq p.0 f ≡ true → IsArrayTerm p.1) (λ p k same. k) by.arrays ok.arrays) (record { typed = tt; low = omega arith })

-- ---- values

pub replaced_value : (by : Replacements) (t : Tree) (r : Result Term TermFault) → AreTerms by → Fits by t → IsTyped t → Answers tree (substitute by t) r
    → IfOk r (λ u. (v : Values) → IsValues v → value v (tree u) ≡ value (replaced_values by v) t)
replaced_value by t (Ok u) ok f h a =
    λ v hv. ap (value v) (sym (within_is (substitute by t) (tree u) a).1) ∙ substitute_value by v t hv (are_typed by ok) f h
replaced_value by t (Err x) ok f h a = tt

pub replaced_bytes : (by : Replacements) (f : ArrayTree) (r : Result ArrayTerm TermFault) → AreTerms by → FitsArray by f → IsTypedArray f → Answers array_tree (substitute_array by f) r
    → IfOk r (λ u. (v : Values) (k : ℕ) → IsValues v → byte_at v (array_tree u) k ≡ byte_at (replaced_values by v) f k)
replaced_bytes by f (Ok u) ok fit h a =
    λ v k hv. ap (λ g. byte_at v g k) (sym (within_is (substitute_array by f) (array_tree u) a).1) ∙ substitute_byte by v f k hv (are_typed by ok) fit h
replaced_bytes by f (Err x) ok fit h a = tt
