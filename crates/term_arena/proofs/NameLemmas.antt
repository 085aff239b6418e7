-- Names that are kept by their texts.
use Rattle.std.proofs.Common.{◌≡◌, ℕ, Bool, false, ◌<◌, List, [], ◌∷◌, ◌++◌, length, map, get_or, Some, eqb, ap, sym, ◌∙◌, arith, true≢false, length-append}
use Rattle.std.specs.Prelude.{slice_get, AllPairs, ◌≢◌, position}
use Rattle.std.specs.Global.{Vec}
use Rattle.std.specs.List.{IsDistinct}
use Rattle.std.specs.Cmp.Lexicographic.{pointwise, bytes_decides}
use Rattle.std.proofs.lemmas.List.{length-map, get_or-map}
use Rattle.std.proofs.lemmas.List.Elements.{All-nil, All-cons, All-append}
use Rattle.std.proofs.lemmas.List.Quantifiers.{position-Some}
use Rattle.std.proofs.lemmas.Map.Keys.{apart_from_distinct}
use Rattle.std.proofs.lemmas.Option.{slice_get-get_or}
use Rattle.std.proofs.Math.Seq.{get_or-append_seam}
use Rattle.term_tree.specs.Terms.{Text}
use Rattle.term_arena.specs.Texts.{AreTexts}

-- kept names
abbrev Entry : Type 0
Entry = Vec ℕ × Text

abbrev pub texts : List Entry → List Text
texts entries = map (λ e. e.1) entries

abbrev pub keys : List Entry → List (Vec ℕ)
keys entries = map (λ e. e.0) entries

-- whether two keys are the same
abbrev pub same_key : Vec ℕ → Vec ℕ → Bool
same_key x y = pointwise eqb x.items y.items

-- names with distinct keys are distinct
pub names_once : (entries : List Entry) → AreTexts entries → IsDistinct same_key (keys entries) → AllPairs (λ x y. x ≢ y) (texts entries)
names_once [] h u i j d lt lj e = let z : j < 0 = lj in omega arith
names_once (x ∷ xs) h u i j d lt lj e =
    let es = x ∷ xs in
    let hj : j < length es = omega (arith, length-map es (λ (e : Entry). e.1)) in
    let hi : i < length es = omega arith in
    let hk : j < length (keys es) = omega (arith, length-map es (λ (e : Entry). e.0)) in
    let p : get_or (texts es) i d ≡ (get_or es i x).1 = get_or-map (λ (e : Entry). e.1) es i x d hi in
    let q : get_or (texts es) j d ≡ (get_or es j x).1 = get_or-map (λ (e : Entry). e.1) es j x d hj in
    let a : get_or (keys es) i x.0 ≡ (get_or es i x).0 = get_or-map (λ (e : Entry). e.0) es i x x.0 hi in
    let b : get_or (keys es) j x.0 ≡ (get_or es j x).0 = get_or-map (λ (e : Entry). e.0) es j x x.0 hj in
    let apart : same_key (get_or (keys es) i x.0) (get_or (keys es) j x.0) ≡ false = apart_from_distinct same_key (keys es) i j x.0 u lt hk in
    let same : (get_or es i x).0.items ≡ (get_or es j x).0.items = h i x hi ∙ sym p ∙ e ∙ q ∙ sym (h j x hj) in
    true≢false (sym ((bytes_decides (get_or es i x).0.items (get_or es j x).0.items).1 same) ∙ sym (ap (λ (k : Vec ℕ). same_key k (get_or es j x).0) a) ∙ sym (ap (λ (k : Vec ℕ). same_key (get_or (keys es) i x.0) k) b) ∙ apart)

-- a name that is found is the text that was looked for
pub found : (entries : List Entry) (text : Text) (i : ℕ) → AreTexts entries → position (λ k. pointwise eqb text k.items) (keys entries) ≡ Some i → slice_get (texts entries) i ≡ Some text
found [] text i h e = absurd (let z : ⊥ = cc in z)
found (x ∷ xs) text i h e =
    let es = x ∷ xs in
    let p = position-Some (λ (k : Vec ℕ). pointwise eqb text k.items) (keys es) i x.0 e in
    let lt : i < length es = let z = p.0 in omega (arith, z, length-map es (λ (e : Entry). e.0)) in
    let long : i < length (texts es) = omega (arith, length-map es (λ (e : Entry). e.1)) in
    let a : get_or (keys es) i x.0 ≡ (get_or es i x).0 = get_or-map (λ (e : Entry). e.0) es i x x.0 lt in
    slice_get-get_or (texts es) i [] long
    ∙ ap Some (get_or-map (λ (e : Entry). e.1) es i x [] lt ∙ sym (h i x lt) ∙ ap (λ (k : Vec ℕ). k.items) (sym a) ∙ sym ((bytes_decides text (get_or (keys es) i x.0).items).0 p.1))

pub pushed_texts : (entries : List Entry) (key : Vec ℕ) (text : Text) → AreTexts entries → key.items ≡ text → AreTexts (entries ++ (key, text) ∷ [])
pushed_texts entries key text h e =
    All-append (λ (e : Entry). e.0.items ≡ e.1) entries ((key, text) ∷ []) h (All-cons (λ (e : Entry). e.0.items ≡ e.1) (key, text) [] e (All-nil (λ (e : Entry). e.0.items ≡ e.1)))

-- what is put behind a list is its last
pub last : {A : Type 0} (xs : List A) (x : A) → slice_get (xs ++ x ∷ []) (length xs) ≡ Some x
last xs x =
    let lt : length xs < length (xs ++ x ∷ []) = omega (arith, length-append xs (x ∷ [])) in
    slice_get-get_or (xs ++ x ∷ []) (length xs) x lt ∙ ap Some (get_or-append_seam xs x [] x)
