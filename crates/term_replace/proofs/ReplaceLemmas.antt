-- Replaced variables: typed terms stay typed and as wide, and their values are those with the replacements' values.
use Rattle.std.proofs.Common.{◌≡◌, ℕ, ◌<◌, ◌^◌, Bool, true, false, ◌&&◌, cond, List, [], ◌∷◌, Option, Some, eqb, ltb, refl, ap, sym, subst, ◌∙◌}
use Rattle.std.specs.Prelude.{All, bytes_eq, nat_eq, find, unwrap_or}
use Rattle.std.specs.Option.{option_map}
use Rattle.std.proofs.lemmas.List.Elements.{All-append, All-nil, All-head, All-tail, All-weaker}
use Rattle.bv_bits.specs.declared.Bits.{Bits}
use Rattle.bv_bits.specs.Bits.{apply_of}
use Rattle.term_tree.specs.Terms.{Text, Tree, lit, var, one, two, three, sel, ArrayTree, array, upd, splice, width_of, IsTyped, IsTypedArray}
use Rattle.term_tree.specs.Values.{Values, IsValues, value, byte, byte_at}
use Rattle.term_make.specs.Making.{make}
use Rattle.term_replace.specs.Replacing.{Replacements, replaced_var, fitting_var, replaced_array, substitute, substitute_array, Fits, FitsArray, replaced_values}
use Rattle.term_replace.specs.Laws.{AreTyped}
use Rattle.term_make.proofs.TypedLemmas.{one_typed, two_typed, three_typed, TypedPair, make_keeps, asked_typed}
use Rattle.term_select.proofs.SelectingLemmas.{select_typed, select_asked, select_value}
use Rattle.term_make.proofs.ValueLemmas.{make_value}
use Rattle.bv_bits.specs.Bits.{IsWidth}
use Rattle.term_tree.proofs.FitLemmas.{value_fits}
use Rattle.term_tree.proofs.OperatorLemmas.{cond_below}
use Rattle.std.proofs.lemmas.Bool.{eqb-true, eq-eqb, and_parts}
use Rattle.term_tree.proofs.FoundLemmas.{found, always}

-- ---- replacements are typed

module _ (by : Replacements) (ok : AreTyped by) where
  replaced_typed : (x : Text) (w : ℕ) → Fits by (var x w) → IsTyped (var x w) → IsTyped (replaced_var by x w) × (width_of (replaced_var by x w) ≡ w)
  replaced_typed x w f h = (
    found IsTyped (λ p. bytes_eq p.0 x) (λ p. p.1) by.terms (var x w) (All-weaker (λ p. IsTyped p.1) (λ p. bytes_eq p.0 x ≡ true → IsTyped p.1) (λ p k same. k) by.terms ok.terms) h,
    found (λ t. width_of t ≡ w) (λ p. bytes_eq p.0 x) (λ p. p.1) by.terms (var x w) f refl,
  )

  replaced_array_typed : (f : Text) → IsTypedArray (replaced_array by f)
  replaced_array_typed f =
      found IsTypedArray (λ p. bytes_eq p.0 f) (λ p. p.1) by.arrays (array f) (All-weaker (λ p. IsTypedArray p.1) (λ p. bytes_eq p.0 f ≡ true → IsTypedArray p.1) (λ p k same. k) by.arrays ok.arrays) tt

-- an application of replaced terms, made
made_keeps : (t : Tree) (w : ℕ) → IsTyped t × (width_of t ≡ w) → IsTyped (make t).it × (width_of (make t).it ≡ w)
made_keeps t w h =
    let m = make_keeps t h.0 in
    (m.0, m.1 ∙ h.1)

pub substitute_typed : (by : Replacements) (t : Tree) → AreTyped by → Fits by t → IsTyped t → IsTyped (substitute by t).it × (width_of (substitute by t).it ≡ width_of t)
substitute_typed by (lit b) ok f h = (h, refl)
substitute_typed by (var x w) ok f h = replaced_typed by ok x w f h
substitute_typed by (one op a) ok f h =
    let i = substitute_typed by a ok f h.1 in
    made_keeps (one op (substitute by a).it) (width_of (one op a)) (one_typed op (substitute by a).it (width_of a) h.0 i.0 i.1)
substitute_typed by (two op a b) ok f h =
    let i = substitute_typed by a ok f.0 h.1 in
    let j = substitute_typed by b ok f.1 h.2 in
    made_keeps (two op (substitute by a).it (substitute by b).it) (width_of (two op a b)) (two_typed op (substitute by a).it (substitute by b).it (width_of a) (width_of b) h.0 i.0 j.0 i.1 j.1)
substitute_typed by (three op a b c) ok f h =
    let i = substitute_typed by a ok f.0 h.1 in
    let j = substitute_typed by b ok f.1 h.2 in
    let k = substitute_typed by c ok f.2 h.3 in
    made_keeps (three op (substitute by a).it (substitute by b).it (substitute by c).it) (width_of (three op a b c)) (three_typed op (substitute by a).it (substitute by b).it (substitute by c).it (width_of a) (width_of b) (width_of c) h.0 i.0 j.0 k.0 i.1 j.1 k.1)
substitute_typed by (sel g i) ok f h =
    let j = substitute_typed by i ok f h.1 in
    select_typed (replaced_array by g) (substitute by i).it (replaced_array_typed by ok g) (j.1 ∙ h.0, j.0)

-- a typed term of this width, replaced
replaced_part : (by : Replacements) (t : Tree) (w : ℕ) → AreTyped by → Fits by t → (width_of t ≡ w) × IsTyped t → (width_of (substitute by t).it ≡ w) × IsTyped (substitute by t).it
replaced_part by t w ok f h =
    let j = substitute_typed by t ok f h.1 in
    (j.1 ∙ h.0, j.0)

pub substitute_array_typed : (by : Replacements) (f : ArrayTree) → AreTyped by → FitsArray by f → IsTypedArray f → IsTypedArray (substitute_array by f).it
substitute_array_typed by (array f) ok k h = replaced_array_typed by ok f
substitute_array_typed by (upd of i e) ok k h =
    (substitute_array_typed by of ok k.0 h.0, replaced_part by i 64 ok k.1 h.1, replaced_part by e 8 ok k.2 h.2)
substitute_array_typed by (splice of below i) ok k h =
    (substitute_array_typed by of ok k.0 h.0, substitute_array_typed by below ok k.1 h.1, replaced_part by i 64 ok k.2 h.2)

-- ---- all that is asked for on the way is typed

pub substitute_asked : (by : Replacements) (t : Tree) → AreTyped by → Fits by t → IsTyped t → All (λ a. IsTyped a.0 × IsTyped a.1) (substitute by t).asked
substitute_asked by (lit b) ok f h = All-nil TypedPair
substitute_asked by (var x w) ok f h = All-nil TypedPair
substitute_asked by (one op a) ok f h =
    let i = substitute_typed by a ok f h.1 in
    let x = (substitute by a).it in
    All-append TypedPair (substitute by a).asked _ (substitute_asked by a ok f h.1)
    (asked_typed (one op x) (one_typed op x (width_of a) h.0 i.0 i.1).0)
substitute_asked by (two op a b) ok f h =
    let i = substitute_typed by a ok f.0 h.1 in
    let j = substitute_typed by b ok f.1 h.2 in
    let x = (substitute by a).it in
    let y = (substitute by b).it in
    All-append TypedPair (substitute by a).asked _ (substitute_asked by a ok f.0 h.1)
    (All-append TypedPair (substitute by b).asked _ (substitute_asked by b ok f.1 h.2)
    (asked_typed (two op x y) (two_typed op x y (width_of a) (width_of b) h.0 i.0 j.0 i.1 j.1).0))
substitute_asked by (three op a b c) ok f h =
    let i = substitute_typed by a ok f.0 h.1 in
    let j = substitute_typed by b ok f.1 h.2 in
    let k = substitute_typed by c ok f.2 h.3 in
    let x = (substitute by a).it in
    let y = (substitute by b).it in
    let z = (substitute by c).it in
    All-append TypedPair (substitute by a).asked _ (substitute_asked by a ok f.0 h.1)
    (All-append TypedPair (substitute by b).asked _ (substitute_asked by b ok f.1 h.2)
    (All-append TypedPair (substitute by c).asked _ (substitute_asked by c ok f.2 h.3)
    (asked_typed (three op x y z) (three_typed op x y z (width_of a) (width_of b) (width_of c) h.0 i.0 j.0 k.0 i.1 j.1 k.1).0)))
substitute_asked by (sel g i) ok f h =
    let j = substitute_typed by i ok f h.1 in
    All-append TypedPair (substitute by i).asked _ (substitute_asked by i ok f h.1)
    (select_asked (replaced_array by g) (substitute by i).it (replaced_array_typed by ok g) (j.1 ∙ h.0, j.0))

pub substitute_array_asked : (by : Replacements) (f : ArrayTree) → AreTyped by → FitsArray by f → IsTypedArray f → All (λ a. IsTyped a.0 × IsTyped a.1) (substitute_array by f).asked
substitute_array_asked by (array f) ok k h = All-nil TypedPair
substitute_array_asked by (upd of i e) ok k h =
    All-append TypedPair (substitute_array by of).asked _ (substitute_array_asked by of ok k.0 h.0)
    (All-append TypedPair (substitute by i).asked _ (substitute_asked by i ok k.1 h.1.1)
    (All-append TypedPair (substitute by e).asked [] (substitute_asked by e ok k.2 h.2.1) (All-nil TypedPair)))
substitute_array_asked by (splice of below i) ok k h =
    All-append TypedPair (substitute_array by of).asked _ (substitute_array_asked by of ok k.0 h.0)
    (All-append TypedPair (substitute_array by below).asked _ (substitute_array_asked by below ok k.1 h.1)
    (All-append TypedPair (substitute by i).asked [] (substitute_asked by i ok k.2 h.2.1) (All-nil TypedPair)))

-- ---- values

found_by : (b c : Bool) → (b ≡ true → c ≡ true) → b ≡ (b && c)
found_by true c f = sym (f refl)
found_by false c f = refl

-- where each replacement of a name is as wide, the first of the name is the first of the name and the width
same_found : (ps : List (Text × Tree)) (x : Text) (w : ℕ) → All (λ p. bytes_eq p.0 x ≡ true → width_of p.1 ≡ w) ps
    → find (λ p. bytes_eq p.0 x) ps ≡ find (λ p. bytes_eq p.0 x && nat_eq (width_of p.1) w) ps
same_found [] x w all = refl
same_found (p ∷ ps) x w all =
    let P : Text × Tree → Type 0 = λ q. bytes_eq q.0 x ≡ true → width_of q.1 ≡ w in
    let here = found_by (bytes_eq p.0 x) (nat_eq (width_of p.1) w) (λ e. eq-eqb (width_of p.1) w (All-head P p ps all e)) in
    ap (λ b. cond b (Some p) (find (λ q. bytes_eq q.0 x) ps)) here
    ∙ ap (λ o. cond (bytes_eq p.0 x && nat_eq (width_of p.1) w) (Some p) o) (same_found ps x w (All-tail P p ps all))

fitting_is : (by : Replacements) (x : Text) (w : ℕ) → Fits by (var x w) → replaced_var by x w ≡ fitting_var by x w
fitting_is by x w f = ap (λ (o : Option (Text × Tree)). unwrap_or (option_map (λ p. p.1) o) (var x w)) (same_found by.terms x w f)

fitting_typed : (by : Replacements) (x : Text) (w : ℕ) → AreTyped by → IsWidth w → IsTyped (fitting_var by x w) × (width_of (fitting_var by x w) ≡ w)
fitting_typed by x w ok h =
    let test : Text × Tree → Bool = λ p. bytes_eq p.0 x && nat_eq (width_of p.1) w in (
      found IsTyped test (λ p. p.1) by.terms (var x w) (always (λ p. IsTyped p.1) test by.terms ok.terms) h,
      found (λ t. width_of t ≡ w) test (λ p. p.1) by.terms (var x w) (λ k d lt t. eqb-true _ w (and_parts _ _ t).1) refl,
    )

-- a byte of an array term is a byte
byte_below : (v : Values) (f : ArrayTree) (k : ℕ) → IsValues v → IsTypedArray f → byte_at v f k < 256
byte_below v (array f) k hv h = hv.bytes f k
byte_below v (upd of i e) k hv h =
    let e_fits = value_fits v e hv h.2.1 in
    let eight : (value v e).width ≡ 8 = e_fits.1 ∙ h.2.0 in
    cond_below (eqb k (value v i).value) (value v e).value (byte_at v of k) 256 (subst (λ w. (value v e).value < 2 ^ w) eight e_fits.0.fits) (byte_below v of k hv h.0)
byte_below v (splice of below i) k hv h =
    cond_below (ltb k (value v i).value) (byte_at v below k) (byte_at v of k) 256 (byte_below v below k hv h.1) (byte_below v of k hv h.0)

pub replaced_are_values : (by : Replacements) (v : Values) → IsValues v → AreTyped by → IsValues (replaced_values by v)
replaced_are_values by v hv ok = record {
  bits = λ x w wide. let t = fitting_typed by x w ok wide in let f = value_fits v (fitting_var by x w) hv t.0 in (f.0, f.1 ∙ t.1);
  bytes = λ f i. byte_below v (replaced_array by f) i hv (replaced_array_typed by ok f);
}

pub substitute_value : (by : Replacements) (v : Values) (t : Tree) → IsValues v → AreTyped by → Fits by t → IsTyped t → value v (substitute by t).it ≡ value (replaced_values by v) t
substitute_value by v (lit b) hv ok f h = refl
substitute_value by v (var x w) hv ok f h = ap (value v) (fitting_is by x w f)
substitute_value by v (one op a) hv ok f h =
    let i = substitute_typed by a ok f h.1 in
    make_value v (one op (substitute by a).it) hv (one_typed op (substitute by a).it (width_of a) h.0 i.0 i.1).0
    ∙ ap (λ (b : Bits). apply_of op (b ∷ [])) (substitute_value by v a hv ok f h.1)
substitute_value by v (two op a b) hv ok f h =
    let i = substitute_typed by a ok f.0 h.1 in
    let j = substitute_typed by b ok f.1 h.2 in
    let x = (substitute by a).it in
    let y = (substitute by b).it in
    make_value v (two op x y) hv (two_typed op x y (width_of a) (width_of b) h.0 i.0 j.0 i.1 j.1).0
    ∙ ap (λ (n : Bits). apply_of op (n ∷ value v y ∷ [])) (substitute_value by v a hv ok f.0 h.1)
    ∙ ap (λ (n : Bits). apply_of op (value (replaced_values by v) a ∷ n ∷ [])) (substitute_value by v b hv ok f.1 h.2)
substitute_value by v (three op a b c) hv ok f h =
    let i = substitute_typed by a ok f.0 h.1 in
    let j = substitute_typed by b ok f.1 h.2 in
    let k = substitute_typed by c ok f.2 h.3 in
    let x = (substitute by a).it in
    let y = (substitute by b).it in
    let z = (substitute by c).it in
    let r = replaced_values by v in
    make_value v (three op x y z) hv (three_typed op x y z (width_of a) (width_of b) (width_of c) h.0 i.0 j.0 k.0 i.1 j.1 k.1).0
    ∙ ap (λ (n : Bits). apply_of op (n ∷ value v y ∷ value v z ∷ [])) (substitute_value by v a hv ok f.0 h.1)
    ∙ ap (λ (n : Bits). apply_of op (value r a ∷ n ∷ value v z ∷ [])) (substitute_value by v b hv ok f.1 h.2)
    ∙ ap (λ (n : Bits). apply_of op (value r a ∷ value r b ∷ n ∷ [])) (substitute_value by v c hv ok f.2 h.3)
substitute_value by v (sel g i) hv ok f h =
    let j = substitute_typed by i ok f h.1 in
    select_value v (replaced_array by g) (substitute by i).it hv (replaced_array_typed by ok g) (j.1 ∙ h.0, j.0)
    ∙ ap (λ (n : Bits). byte (byte_at v (replaced_array by g) n.value)) (substitute_value by v i hv ok f h.1)

pub substitute_byte : (by : Replacements) (v : Values) (f : ArrayTree) (k : ℕ) → IsValues v → AreTyped by → FitsArray by f → IsTypedArray f → byte_at v (substitute_array by f).it k ≡ byte_at (replaced_values by v) f k
substitute_byte by v (array f) k hv ok fit h = refl
substitute_byte by v (upd of i e) k hv ok fit h =
    let r = replaced_values by v in
    let y = (value v (substitute by e).it).value in
    let z = byte_at v (substitute_array by of).it k in
    ap (λ (n : Bits). cond (eqb k n.value) y z) (substitute_value by v i hv ok fit.1 h.1.1)
    ∙ ap (λ (n : Bits). cond (eqb k (value r i).value) n.value z) (substitute_value by v e hv ok fit.2 h.2.1)
    ∙ ap (λ (n : ℕ). cond (eqb k (value r i).value) (value r e).value n) (substitute_byte by v of k hv ok fit.0 h.0)
substitute_byte by v (splice of below i) k hv ok fit h =
    let r = replaced_values by v in
    let y = byte_at v (substitute_array by below).it k in
    let z = byte_at v (substitute_array by of).it k in
    ap (λ (n : Bits). cond (ltb k n.value) y z) (substitute_value by v i hv ok fit.2 h.2.1)
    ∙ ap (λ (n : ℕ). cond (ltb k (value r i).value) n z) (substitute_byte by v below k hv ok fit.1 h.1)
    ∙ ap (λ (n : ℕ). cond (ltb k (value r i).value) (byte_at r below k) n) (substitute_byte by v of k hv ok fit.0 h.0)
