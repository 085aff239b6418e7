-- What is made of typed terms is typed, and as wide.
use Rattle.std.proofs.Common.{◌≡◌, ℕ, zero, suc, ◌*◌, [], ◌∷◌, Option, Some, None, IsSome, refl, ap, sym, ◌∙◌, subst}
use Rattle.std.specs.Prelude.{unwrap_or, All}
use Rattle.std.proofs.lemmas.List.Elements.{All-append, All-nil, All-cons}
use Rattle.bv_bits.specs.declared.Op.{Op}
use Rattle.bv_bits.specs.Bits.{result_width_of}
use Rattle.term_tree.specs.Terms.{Tree, one, two, three, width_of, IsTyped}
use Rattle.term_tree.specs.Sizes.{size}
use Rattle.term_rules.specs.Rules.{Right, given, made_one, made_two, rule_of}
use Rattle.term_rules.specs.Laws.{right_width, IsTypedRight}
use Rattle.term_rules.proofs.TypedLemmas.{right_typed}
use Rattle.term_make.specs.Making.{Asked, Made, build, make_by, make_within, make}

-- typed, and as wide
abbrev pub Keeps : Tree → Tree → Type 0
Keeps t u = IsTyped u × (width_of u ≡ width_of t)

-- an application of a typed term of this width
pub one_typed : (op : Op) (x : Tree) (w : ℕ) → IsSome (result_width_of op (w ∷ [])) → IsTyped x → width_of x ≡ w → IsTyped (one op x) × (width_of (one op x) ≡ unwrap_or (result_width_of op (w ∷ [])) 0)
one_typed op x w h t e = (
  (subst (λ (k : ℕ). IsSome (result_width_of op (k ∷ []))) (sym e) h, t),
  ap (λ k. unwrap_or (result_width_of op (k ∷ [])) 0) e,
)

pub two_typed : (op : Op) (x y : Tree) (v w : ℕ) → IsSome (result_width_of op (v ∷ w ∷ [])) → IsTyped x → IsTyped y → width_of x ≡ v → width_of y ≡ w → IsTyped (two op x y) × (width_of (two op x y) ≡ unwrap_or (result_width_of op (v ∷ w ∷ [])) 0)
two_typed op x y v w h t u e f =
    let widths : result_width_of op (width_of x ∷ width_of y ∷ []) ≡ result_width_of op (v ∷ w ∷ []) = ap (λ k. result_width_of op (k ∷ width_of y ∷ [])) e ∙ ap (λ k. result_width_of op (v ∷ k ∷ [])) f in
    ((subst (λ (o : Option ℕ). IsSome o) (sym widths) h, t, u), ap (λ (o : Option ℕ). unwrap_or o 0) widths)

pub three_typed : (op : Op) (x y z : Tree) (u v w : ℕ) → IsSome (result_width_of op (u ∷ v ∷ w ∷ [])) → IsTyped x → IsTyped y → IsTyped z → width_of x ≡ u → width_of y ≡ v → width_of z ≡ w → IsTyped (three op x y z) × (width_of (three op x y z) ≡ unwrap_or (result_width_of op (u ∷ v ∷ w ∷ [])) 0)
three_typed op x y z u v w h tx ty tz e f g =
    let widths : result_width_of op (width_of x ∷ width_of y ∷ width_of z ∷ []) ≡ result_width_of op (u ∷ v ∷ w ∷ []) = ap (λ k. result_width_of op (k ∷ width_of y ∷ width_of z ∷ [])) e ∙ ap (λ k. result_width_of op (u ∷ k ∷ width_of z ∷ [])) f ∙ ap (λ k. result_width_of op (u ∷ v ∷ k ∷ [])) g in
    ((subst (λ (o : Option ℕ). IsSome o) (sym widths) h, tx, ty, tz), ap (λ (o : Option ℕ). unwrap_or o 0) widths)

-- both terms of a pair are typed
abbrev pub TypedPair : Asked → Type 0
TypedPair a = IsTyped a.0 × IsTyped a.1

-- what f makes is typed, as wide, and so is all that f asks for
pub record IsTypedMaker (f : Tree → Made Tree) : Type 0 where
  pub keeps : (t : Tree) → IsTyped t → Keeps t (f t).it
  pub asked : (t : Tree) → IsTyped t → All TypedPair (f t).asked

module _ (f : Tree → Made Tree) (k : IsTypedMaker f) where
  pub built_typed : (r : Right) → IsTypedRight r → IsTyped (build f r).it × (width_of (build f r).it ≡ right_width r)
  built_typed (given t) h = (h, refl)
  built_typed (made_one op r) h =
      let i = built_typed r h.1 in
      let a = one_typed op (build f r).it (right_width r) h.0 i.0 i.1 in
      let m = k.keeps (one op (build f r).it) a.0 in
      (m.0, m.1 ∙ a.1)
  built_typed (made_two op r s) h =
      let i = built_typed r h.1 in
      let j = built_typed s h.2 in
      let a = two_typed op (build f r).it (build f s).it (right_width r) (right_width s) h.0 i.0 j.0 i.1 j.1 in
      let m = k.keeps (two op (build f r).it (build f s).it) a.0 in
      (m.0, m.1 ∙ a.1)

  built_asked : (r : Right) → IsTypedRight r → All TypedPair (build f r).asked
  built_asked (given t) h = All-nil TypedPair
  built_asked (made_one op r) h =
      let i = built_typed r h.1 in
      let a = one_typed op (build f r).it (right_width r) h.0 i.0 i.1 in
      All-append TypedPair (build f r).asked _ (built_asked r h.1) (k.asked (one op (build f r).it) a.0)
  built_asked (made_two op r s) h =
      let i = built_typed r h.1 in
      let j = built_typed s h.2 in
      let a = two_typed op (build f r).it (build f s).it (right_width r) (right_width s) h.0 i.0 j.0 i.1 j.1 in
      All-append TypedPair (build f r).asked _ (built_asked r h.1)
      (All-append TypedPair (build f s).asked _ (built_asked s h.2) (k.asked (two op (build f r).it (build f s).it) a.0))

  keeps_by : (t : Tree) → IsTyped t → (o : Option Right) → rule_of t ≡ o → Keeps t (make_by f t o).it
  keeps_by t h None e = (h, refl)
  keeps_by t h (Some r) e =
      let s = right_typed t r h e in
      let b = built_typed r s.0 in
      (b.0, b.1 ∙ s.1)

  asked_by : (t : Tree) → IsTyped t → (o : Option Right) → rule_of t ≡ o → All TypedPair (make_by f t o).asked
  asked_by t h None e = All-cons TypedPair (t, t) [] (h, h) (All-nil TypedPair)
  asked_by t h (Some r) e =
      let s = right_typed t r h e in
      All-append TypedPair (build f r).asked _ (built_asked r s.0)
      (All-cons TypedPair (t, (build f r).it) [] (h, (built_typed r s.0).0) (All-nil TypedPair))

pub typed_within : (n : ℕ) → IsTypedMaker (make_within n)
typed_within zero = record {
  keeps = λ t h. (h, refl);
  asked = λ t h. All-cons TypedPair (t, t) [] (h, h) (All-nil TypedPair);
}
typed_within (suc n) = record {
  keeps = λ t h. keeps_by (make_within n) (typed_within n) t h (rule_of t) refl;
  asked = λ t h. asked_by (make_within n) (typed_within n) t h (rule_of t) refl;
}

pub make_keeps : (t : Tree) → IsTyped t → Keeps t (make t).it
make_keeps t h = (typed_within (4 * size t)).keeps t h

pub make_typed : (t : Tree) → IsTyped t → IsTyped (make t).it
make_typed t h = (make_keeps t h).0

pub make_width : (t : Tree) → IsTyped t → width_of (make t).it ≡ width_of t
make_width t h = (make_keeps t h).1

pub asked_typed : (t : Tree) → IsTyped t → All (λ a. IsTyped a.0 × IsTyped a.1) (make t).asked
asked_typed t h = (typed_within (4 * size t)).asked t h
