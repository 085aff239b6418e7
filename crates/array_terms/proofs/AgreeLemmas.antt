-- Arrays agree below a length where their bytes at each index are equal.
use Rattle.std.proofs.Common.{◌≡◌, ℕ, ◌<◌, ◌^◌, Bool, true, false, cond, ◌&&◌, [], ◌∷◌, refl, ap, sym, ◌∙◌, subst, arith}
use Rattle.std.specs.Prelude.{IsSome, nat_eq, bytes_eq}
use Rattle.std.proofs.lemmas.Bool.{and_parts, eqb-true, lt-ltb}
use Rattle.bv_bits.specs.declared.Bits.{Bits}
use Rattle.bv_bits.specs.declared.Op.TheVariants.{Eq, ULt}
use Rattle.bv_bits.specs.Bits.{IsBits, IsWidth, bit, result_width_of}
use Rattle.term_tree.specs.Terms.{Text, Tree, lit, var, one, two, three, sel, ArrayTree, array, upd, splice, IsTyped, IsTypedArray, IsIndex, width_of}
use Rattle.term_tree.specs.Values.{Values, IsValues, value, byte_at}
use Rattle.term_tree.specs.Laws.{Agree, AgreeOnArray}
use Rattle.term_tree.proofs.AgreeLemmas.{values_agree, bytes_agree}
use Rattle.term_tree.proofs.FitLemmas.{value_fits}
use Rattle.term_tree.proofs.SameLemmas.{same_text}
use Rattle.term_make.proofs.ValueLemmas.{make_value}
use Rattle.term_select.specs.Selecting.{select}
use Rattle.term_select.proofs.SelectingLemmas.{select_typed, select_value}
use Rattle.term_arena.specs.Said.{Answers, said_then}
use Rattle.array_terms.specs.SameArrays.{same_terms, said_same, INDEX, index, below, IsIndexVariable, LacksIndex, ArrayLacksIndex, DifferAtIndex, SameArraysAgree}

-- whether a variable is the index
abbrev pub is_index : Text → ℕ → Bool
is_index x w = bytes_eq x INDEX && nat_eq w 64

-- the same values, but for the index
abbrev pub with_index : Values → ℕ → Values
with_index v k = record { bits_of = λ x w. cond (is_index x w) (record { width = 64; value = k }) (v.bits_of x w); byte_of = v.byte_of }

module _ (v : Values) (k : ℕ) where
  other : (x : Text) (w : ℕ) → (IsIndexVariable x w → ⊥) → (with_index v k).bits_of x w ≡ v.bits_of x w
  other x w apart = by (is_index x w) refl
    where
      by : (b : Bool) → is_index x w ≡ b → (with_index v k).bits_of x w ≡ v.bits_of x w
      by false e = ap (λ (b : Bool). cond b (record { width = 64; value = k }) (v.bits_of x w)) e
      by true e =
          let p = and_parts (bytes_eq x INDEX) (nat_eq w 64) e in
          let names : x ≡ INDEX = same_text x INDEX p.0 in
          let widths : w ≡ 64 = eqb-true w 64 p.1 in
          absurd (apart (names, widths))

  differ : DifferAtIndex v (with_index v k)
  differ = record { bits = other; bytes = λ f i. refl }

  agrees : (t : Tree) → LacksIndex t → Agree (with_index v k) v t
  agrees (lit b) h = tt
  agrees (var x w) h = other x w h
  agrees (one op a) h = agrees a h
  agrees (two op a b) h = (agrees a h.0, agrees b h.1)
  agrees (three op a b c) h = (agrees a h.0, agrees b h.1, agrees c h.2)
  agrees (sel f i) h = (λ n. refl, agrees i h.1)

  agrees_on : (f : ArrayTree) → ArrayLacksIndex f → AgreeOnArray (with_index v k) v f
  agrees_on (array f) h = λ n. refl
  agrees_on (upd of i e) h = (agrees_on of h.0, agrees i h.1, agrees e h.2)
  agrees_on (splice of low i) h = (agrees_on of h.0, agrees_on low h.1, agrees i h.2)

  values : IsValues v → k < 2 ^ 64 → IsValues (with_index v k)
  values h fits = record { bits = bits; bytes = h.bytes }
    where
      bits : (x : Text) (w : ℕ) → IsWidth w → IsBits ((with_index v k).bits_of x w) × (((with_index v k).bits_of x w).width ≡ w)
      bits x w wide = by (is_index x w) refl
        where
          by : (b : Bool) → is_index x w ≡ b → IsBits ((with_index v k).bits_of x w) × (((with_index v k).bits_of x w).width ≡ w)
          by false e = subst (λ (b : Bits). IsBits b × (b.width ≡ w)) (sym (ap (λ (b : Bool). cond b (record { width = 64; value = k }) (v.bits_of x w)) e)) (h.bits x w wide)
          by true e =
              let p = and_parts (bytes_eq x INDEX) (nat_eq w 64) e in
              let widths : w ≡ 64 = eqb-true w 64 p.1 in
              subst (λ (b : Bits). IsBits b × (b.width ≡ w)) (sym (ap (λ (b : Bool). cond b (record { width = 64; value = k }) (v.bits_of x w)) e))
              (record { positive = omega arith; at_most = omega arith; fits = fits }, sym widths)

equal_numbers : (x y : ℕ) → bit (nat_eq x y) ≡ 1 → x ≡ y
equal_numbers x y e = by (nat_eq x y) refl
  where
    by : (b : Bool) → nat_eq x y ≡ b → x ≡ y
    by true h = eqb-true x y h
    by false h =
        let none : 0 ≡ 1 = sym (ap bit h) ∙ e in
        absurd (omega (arith, none))

-- ---- types

pub index_fine : IsIndex index
index_fine = (refl, record { positive = omega arith; at_most = omega arith })

-- an order of the index and a length
pub order_typed : (len : Tree) → IsIndex len → IsTyped (two ULt index len)
order_typed len h = (subst (λ (w : ℕ). IsSome (result_width_of ULt (64 ∷ w ∷ []))) (sym h.0) refl, index_fine.1, h.1)

-- an equation of two bytes
pub equal_typed : (x y : Tree) → IsTyped x × (width_of x ≡ 8) → IsTyped y × (width_of y ≡ 8) → IsTyped (two Eq x y)
equal_typed x y h k =
    (subst (λ (w : ℕ). IsSome (result_width_of Eq (w ∷ width_of y ∷ []))) (sym h.1) (subst (λ (w : ℕ). IsSome (result_width_of Eq (8 ∷ w ∷ []))) (sym k.1) refl), h.0, k.0)

bytes_typed : (f g : ArrayTree) → IsTypedArray f → IsTypedArray g → IsTyped (two Eq (select f index).it (select g index).it)
bytes_typed f g hf hg = equal_typed (select f index).it (select g index).it (select_typed f index hf index_fine) (select_typed g index hg index_fine)

-- ---- the law

pub arrays_agree : SameArraysAgree
arrays_agree v f g len hv hf hg hn lf lg ln holds k lt =
    let u = with_index v k in
    let len_same : value u len ≡ value v len = values_agree u v len (agrees v k len ln) in
    let len_fits = value_fits v len hv hn.1 in
    let small : (value v len).value < 2 ^ 64 = subst (λ (w : ℕ). (value v len).value < 2 ^ w) (len_fits.1 ∙ hn.0) len_fits.0.fits in
    let hu : IsValues u = values v k hv (omega (arith, lt, small)) in
    let fact_typed : IsTyped (two ULt index len) = order_typed len hn in
    let above : k < (value u len).value = subst (λ (b : Bits). k < b.value) (sym len_same) lt in
    let fact : (value u (below len)).value ≡ 1 = ap (λ (b : Bits). b.value) (make_value u (two ULt index len) hu fact_typed) ∙ ap bit (lt-ltb k (value u len).value above) in
    let goal_typed : IsTyped (two Eq (select f index).it (select g index).it) = bytes_typed f g hf hg in
    let equal : bit (nat_eq (value u (select f index).it).value (value u (select g index).it).value) ≡ 1 =
    sym (ap (λ (b : Bits). b.value) (make_value u (two Eq (select f index).it (select g index).it) hu goal_typed)) ∙ holds u hu (differ v k) fact in
    sym (byte_is f hf lf hu)
    ∙ equal_numbers (value u (select f index).it).value (value u (select g index).it).value equal
    ∙ byte_is g hg lg hu
  where
    byte_is : (h : ArrayTree) → IsTypedArray h → ArrayLacksIndex h → IsValues (with_index v k) → (value (with_index v k) (select h index).it).value ≡ byte_at v h k
    byte_is h hh lh hu = ap (λ (b : Bits). b.value) (select_value (with_index v k) h index hu hh index_fine) ∙ bytes_agree (with_index v k) v h k (agrees_on v k h lh)

-- ---- the fact and the goal

pub said_answers : (f g : ArrayTree) (len : Tree) → (said_same f g len).answer ≡ Answers (same_terms f g len)
unfolding said_then
said_answers f g len = refl
