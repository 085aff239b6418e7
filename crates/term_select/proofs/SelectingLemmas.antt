-- What is selected: what is asked for on the way, its type, and its value.
use Rattle.std.proofs.Common.{◌≡◌, ℕ, ◌-◌, Bool, true, false, cond, ◌&&◌, [], ◌∷◌, Option, Some, IsSome, eqb, ltb, refl, ap, ◌∙◌}
use Rattle.std.specs.Prelude.{unwrap_or, is_some, All}
use Rattle.std.proofs.lemmas.Bool.{eq-eqb}
use Rattle.std.proofs.lemmas.List.Elements.{All-append, All-nil, All-cons}
use Rattle.bv_bits.specs.declared.Bits.{Bits}
use Rattle.bv_bits.specs.declared.Op.{Op}
use Rattle.bv_bits.specs.declared.Op.TheVariants.{Eq, ULt, Ite}
use Rattle.bv_bits.specs.Bits.{some_if, result_width_of, bit}
use Rattle.term_tree.specs.Terms.{Tree, two, three, sel, ArrayTree, array, upd, splice, width_of, IsTyped, IsTypedArray, IsIndex}
use Rattle.term_make.specs.Making.{make, IsMade, plain}
use Rattle.term_select.specs.Selecting.{select}
use Rattle.term_tree.proofs.OperatorLemmas.{width_here}
use Rattle.term_make.proofs.TypedLemmas.{TypedPair, asked_typed, make_keeps, make_typed, make_width, three_typed, two_typed}
use Rattle.term_tree.specs.Values.{Values, IsValues, value, byte, byte_at}
use Rattle.term_tree.proofs.SameLemmas.{bits_equal}
use Rattle.term_tree.proofs.FitLemmas.{value_fits}
use Rattle.term_make.proofs.ValueLemmas.{make_value}
use Rattle.term_make.proofs.StepLemmas.{IsResult, made_results, results_then}

-- ---- what is selected is typed

-- a choice between terms of one width
pub ite_typed : (t x y : Tree) (n : ℕ) → IsTyped t → IsTyped x → IsTyped y → width_of t ≡ 1 → width_of x ≡ n → width_of y ≡ n → IsTyped (three Ite t x y) × (width_of (three Ite t x y) ≡ n)
ite_typed t x y n ht hx hy et ex ey =
    let s : (eqb 1 1 && eqb n n) ≡ true = eq-eqb n n refl in
    let some : IsSome (result_width_of Ite (1 ∷ n ∷ n ∷ [])) = ap (λ (b : Bool). is_some (some_if b n)) s in
    let r = three_typed Ite t x y 1 n n some ht hx hy et ex ey in
    (r.0, r.1 ∙ width_here (eqb 1 1 && eqb n n) n some)

-- a relation of two indices
pub index_relation : (op : Op) (i j : Tree) → result_width_of op (64 ∷ 64 ∷ []) ≡ Some 1 → IsIndex i → IsIndex j → IsTyped (two op i j) × (width_of (two op i j) ≡ 1)
index_relation op i j e hi hj =
    let some : IsSome (result_width_of op (64 ∷ 64 ∷ [])) = ap (λ (o : Option ℕ). is_some o) e in
    let r = two_typed op i j 64 64 some hi.1 hj.1 hi.0 hj.0 in
    (r.0, r.1 ∙ ap (λ (o : Option ℕ). unwrap_or o 0) e)

-- the choice that is made of a relation of indices and two bytes
pub choice_typed : (op : Op) (i j x y : Tree) → result_width_of op (64 ∷ 64 ∷ []) ≡ Some 1 → IsIndex i → IsIndex j → IsTyped x → IsTyped y → width_of x ≡ 8 → width_of y ≡ 8 → IsTyped (three Ite (make (two op i j)).it x y) × (width_of (three Ite (make (two op i j)).it x y) ≡ 8)
choice_typed op i j x y e hi hj hx hy ex ey =
    let r = index_relation op i j e hi hj in
    ite_typed (make (two op i j)).it x y 8 (make_typed (two op i j) r.0) hx hy (make_width (two op i j) r.0 ∙ r.1) ex ey

pub select_typed : (f : ArrayTree) (i : Tree) → IsTypedArray f → IsIndex i → IsTyped (select f i).it × (width_of (select f i).it ≡ 8)
select_typed (array f) i hf hi = (hi, refl)
select_typed (upd of j e) i hf hi =
    let other = select_typed of i hf.0 hi in
    let c = choice_typed Eq i j e (select of i).it refl hi hf.1 hf.2.1 other.0 hf.2.0 other.1 in
    let m = make_keeps (three Ite (make (two Eq i j)).it e (select of i).it) c.0 in
    (m.0, m.1 ∙ c.1)
select_typed (splice of below j) i hf hi =
    let low = select_typed below i hf.1 hi in
    let other = select_typed of i hf.0 hi in
    let c = choice_typed ULt i j (select below i).it (select of i).it refl hi hf.2 low.0 other.0 low.1 other.1 in
    let m = make_keeps (three Ite (make (two ULt i j)).it (select below i).it (select of i).it) c.0 in
    (m.0, m.1 ∙ c.1)

-- so is all that is asked for on the way
pub select_asked : (f : ArrayTree) (i : Tree) → IsTypedArray f → IsIndex i → All (λ a. IsTyped a.0 × IsTyped a.1) (select f i).asked
select_asked (array f) i hf hi = All-cons TypedPair (sel f i, sel f i) [] (hi, hi) (All-nil TypedPair)
select_asked (upd of j e) i hf hi =
    let other = select_typed of i hf.0 hi in
    let c = choice_typed Eq i j e (select of i).it refl hi hf.1 hf.2.1 other.0 hf.2.0 other.1 in
    All-append TypedPair (make (two Eq i j)).asked _ (asked_typed (two Eq i j) (index_relation Eq i j refl hi hf.1).0)
    (All-append TypedPair (select of i).asked _ (select_asked of i hf.0 hi) (asked_typed (three Ite (make (two Eq i j)).it e (select of i).it) c.0))
select_asked (splice of below j) i hf hi =
    let low = select_typed below i hf.1 hi in
    let other = select_typed of i hf.0 hi in
    let c = choice_typed ULt i j (select below i).it (select of i).it refl hi hf.2 low.0 other.0 low.1 other.1 in
    All-append TypedPair (make (two ULt i j)).asked _ (asked_typed (two ULt i j) (index_relation ULt i j refl hi hf.2).0)
    (All-append TypedPair (select below i).asked _ (select_asked below i hf.1 hi)
    (All-append TypedPair (select of i).asked _ (select_asked of i hf.0 hi) (asked_typed (three Ite (make (two ULt i j)).it (select below i).it (select of i).it) c.0)))

-- ---- what is selected

-- a choice by a relation of indices
choose : (b : Bool) (x y : ℕ) → cond (eqb (bit b) 1) x y ≡ cond b x y
choose true x y = refl
choose false x y = refl

choice_value : (c : ℕ) (b : Bool) (x y n m : ℕ) → c ≡ bit b → x ≡ n → y ≡ m → cond (eqb c 1) x y ≡ cond b n m
choice_value c b x y n m e p q =
    ap (λ k. cond (eqb k 1) x y) e ∙ choose b x y ∙ ap (λ k. cond b k y) p ∙ ap (λ k. cond b n k) q

number_as : (a : Bits) (n : ℕ) → a ≡ byte n → a.value ≡ n
number_as a n e = ap (λ (b : Bits). b.value) e

pub select_value : (v : Values) (f : ArrayTree) (i : Tree) → IsValues v → IsTypedArray f → IsIndex i → value v (select f i).it ≡ byte (byte_at v f (value v i).value)
select_value v (array f) i hv hf hi = refl
select_value v (upd of j e) i hv hf hi =
    let other = select_typed of i hf.0 hi in
    let t = three Ite (make (two Eq i j)).it e (select of i).it in
    let c = choice_typed Eq i j e (select of i).it refl hi hf.1 hf.2.1 other.0 hf.2.0 other.1 in
    let m = make_keeps t c.0 in
    let test = make_value v (two Eq i j) hv (index_relation Eq i j refl hi hf.1).0 in
    let rest = number_as _ _ (select_value v of i hv hf.0 hi) in
    make_value v t hv c.0
    ∙ bits_equal (value v t) (byte (byte_at v (upd of j e) (value v i).value)) ((value_fits v t hv c.0).1 ∙ c.1)
    (choice_value _ (eqb (value v i).value (value v j).value) _ _ _ _ (ap (λ (b : Bits). b.value) test) refl rest)
select_value v (splice of below j) i hv hf hi =
    let low = select_typed below i hf.1 hi in
    let other = select_typed of i hf.0 hi in
    let t = three Ite (make (two ULt i j)).it (select below i).it (select of i).it in
    let c = choice_typed ULt i j (select below i).it (select of i).it refl hi hf.2 low.0 other.0 low.1 other.1 in
    let test = make_value v (two ULt i j) hv (index_relation ULt i j refl hi hf.2).0 in
    let first = number_as _ _ (select_value v below i hv hf.1 hi) in
    let rest = number_as _ _ (select_value v of i hv hf.0 hi) in
    make_value v t hv c.0
    ∙ bits_equal (value v t) (byte (byte_at v (splice of below j) (value v i).value)) ((value_fits v t hv c.0).1 ∙ c.1)
    (choice_value _ (ltb (value v i).value (value v j).value) _ _ _ _ (ap (λ (b : Bits). b.value) test) first rest)

pub select_results : (f : ArrayTree) (i : Tree) → All (λ a. IsMade a.0 a.1) (select f i).asked
select_results (array f) i = All-cons IsResult (sel f i, sel f i) [] (plain refl) (All-nil IsResult)
select_results (upd of j e) i =
    results_then (make (two Eq i j)) _ (made_results (two Eq i j))
    (results_then (select of i) _ (select_results of i) (made_results (three Ite (make (two Eq i j)).it e (select of i).it)))
select_results (splice of below j) i =
    results_then (make (two ULt i j)) _ (made_results (two ULt i j))
    (results_then (select below i) _ (select_results below i)
    (results_then (select of i) _ (select_results of i) (made_results (three Ite (make (two ULt i j)).it (select below i).it (select of i).it))))
