-- The value of a typed term is a value, as wide as the term.
use Rattle.std.proofs.Common.{◌≡◌, ℕ, [], ◌∷◌, Option, IsSome, refl, ap, sym, ◌∙◌, subst, arith}
use Rattle.std.specs.Prelude.{unwrap_or}
use Rattle.bv_bits.specs.Bits.{IsBits, result_width_of}
use Rattle.term_tree.specs.Terms.{Tree, lit, var, one, two, three, sel, width_of, IsTyped}
use Rattle.term_tree.specs.Values.{Values, IsValues, value}
use Rattle.term_tree.proofs.OperatorLemmas.{one_fits, two_fits, three_fits}

-- ---- values of typed terms

pub value_fits : (v : Values) (t : Tree) → IsValues v → IsTyped t → IsBits (value v t) × ((value v t).width ≡ width_of t)
value_fits v (lit b) hv h = (h, refl)
value_fits v (var x w) hv h = hv.bits x w h
value_fits v (one op a) hv h =
    let i = value_fits v a hv h.1 in
    let e : result_width_of op ((value v a).width ∷ []) ≡ result_width_of op (width_of a ∷ []) = ap (λ k. result_width_of op (k ∷ [])) i.1 in
    (one_fits op (value v a) i.0 (subst (λ (o : Option ℕ). IsSome o) (sym e) h.0), ap (λ (o : Option ℕ). unwrap_or o 0) e)
value_fits v (two op a b) hv h =
    let i = value_fits v a hv h.1 in
    let j = value_fits v b hv h.2 in
    let e : result_width_of op ((value v a).width ∷ (value v b).width ∷ []) ≡ result_width_of op (width_of a ∷ width_of b ∷ []) = ap (λ k. result_width_of op (k ∷ (value v b).width ∷ [])) i.1 ∙ ap (λ k. result_width_of op (width_of a ∷ k ∷ [])) j.1 in
    (two_fits (value v a) (value v b) i.0 j.0 op (subst (λ (o : Option ℕ). IsSome o) (sym e) h.0), ap (λ (o : Option ℕ). unwrap_or o 0) e)
value_fits v (three op a b c) hv h =
    let i = value_fits v a hv h.1 in
    let j = value_fits v b hv h.2 in
    let k = value_fits v c hv h.3 in
    let e : result_width_of op ((value v a).width ∷ (value v b).width ∷ (value v c).width ∷ []) ≡ result_width_of op (width_of a ∷ width_of b ∷ width_of c ∷ []) = ap (λ n. result_width_of op (n ∷ (value v b).width ∷ (value v c).width ∷ [])) i.1 ∙ ap (λ n. result_width_of op (width_of a ∷ n ∷ (value v c).width ∷ [])) j.1 ∙ ap (λ n. result_width_of op (width_of a ∷ width_of b ∷ n ∷ [])) k.1 in
    (three_fits op (value v a) (value v b) (value v c) i.0 j.0 k.0 (subst (λ (o : Option ℕ). IsSome o) (sym e) h.0), ap (λ (o : Option ℕ). unwrap_or o 0) e)
value_fits v (sel f i) hv h =
    (record { positive = omega arith; at_most = omega arith; fits = hv.bytes f (value v i).value }, refl)
