-- Terms whose variables are 64 bits wide, as they are made and replaced.
use Rattle.std.proofs.Common.{◌≡◌, true, List, [], ◌∷◌, map, refl, ap, sym, ◌∙◌, subst, arith, rules}
use Rattle.std.specs.Prelude.{⊤, All, Result, Ok, Err, IfOk, bytes_eq}
use Rattle.std.proofs.lemmas.List.Elements.{All-nil, All-cons, All-map, All-weaker}
use Rattle.bv_bits.specs.declared.Op.TheVariants.{Sub, Add}
use Rattle.term_tree.specs.declared.term.TermFault.{TermFault}
use Rattle.term_tree.specs.Terms.{Text, Tree, lit, var, one, two, three, sel, ArrayTree, array, upd, splice, IsTyped, IsTypedArray, width_of}
use Rattle.term_tree.specs.Variables.{HasVariables, ArrayHasVariables}
use Rattle.term_make.specs.Making.{make}
use Rattle.term_make.proofs.VariableLemmas.{make_variables}
use Rattle.term_replace.specs.Replacing.{Replacements, Fits, FitsArray}
use Rattle.term_arena.specs.declared.node.TermId.{TermId}
use Rattle.term_arena.specs.declared.node.ArrayId.{ArrayId}
use Rattle.term_arena.specs.Nodes.{Node, Keeps}
use Rattle.term_arena.specs.Answers.{id_term, id_array}
use Rattle.term_arena.specs.Said.{said_of, whole_array}
use Rattle.term_arena.specs.Makes.{Makes}
use Rattle.arena_replace.specs.Substituting.{named, replacements, Replaces, ReplacesArray}
use Rattle.term_arena.proofs.MeaningLemmas.{keeps_itself, keeps_term, keeps_array}
use Rattle.term_arena.proofs.AnswerLemmas.{answer_is, makes_has}
use Rattle.arena_cases.specs.Widths.{IsWide, IsWideArray, IsWidePair}

-- ---- terms of variables

var_typed : (x : Text) → IsTyped (var x 64)
var_typed x = record { positive = omega arith; at_most = omega arith }

byte_typed : (f x : Text) → IsTyped (sel f (var x 64))
byte_typed f x = (refl, var_typed x)

pub wide_var : (t : Tree) (x : Text) → t ≡ var x 64 → IsWide t
wide_var t x e = subst IsWide (sym e) (record { typed = var_typed x; low = omega arith }, refl)

pub wide_difference : (t : Tree) (x y : Text) → t ≡ two Sub (var x 64) (var y 64) → IsWide t
wide_difference t x y e = subst IsWide (sym e) (record { typed = (search rules, var_typed x, var_typed y); low = omega arith }, (refl, refl))

pub wide_byte : (t : Tree) (f x : Text) → t ≡ sel f (var x 64) → IsWide t
wide_byte t f x e = subst IsWide (sym e) (record { typed = byte_typed f x; low = omega arith }, (tt, refl))

pub wide_bytes : (h : ArrayTree) (f : Text) → h ≡ array f → IsWideArray h
wide_bytes h f e = subst IsWideArray (sym e) (record { typed = tt; low = omega arith }, tt)

pub wide_update : (h : ArrayTree) (f x g : Text) → h ≡ upd (array f) (var x 64) (sel g (var x 64)) → IsWideArray h
wide_update h f x g e = subst IsWideArray (sym e) (record { typed = (tt, (refl, var_typed x), (refl, byte_typed g x)); low = omega arith }, (tt, refl, (tt, refl)))

pub wide_splice : (h : ArrayTree) (f g x : Text) → h ≡ splice (array f) (array g) (var x 64) → IsWideArray h
wide_splice h f g x e = subst IsWideArray (sym e) (record { typed = (tt, tt, (refl, var_typed x)); low = omega arith }, (tt, tt, refl))

-- ---- along a list that grows

module _ (old new : List Node) (k : Keeps old new) where
  pub wide_stays : (id : TermId) → IsWide (id_term old id) → IsWide (id_term new id)
  wide_stays id h = subst IsWide (sym (keeps_term old new id.number k h.0.typed)) h

  pub var_stays : (id : TermId) (x : Text) → id_term old id ≡ var x 64 → id_term new id ≡ var x 64
  var_stays id x e = keeps_term old new id.number k (subst IsTyped (sym e) (var_typed x)) ∙ e

  pub bytes_stay : (id : ArrayId) (f : Text) → id_array old id ≡ array f → id_array new id ≡ array f
  bytes_stay id f e = keeps_array old new id.number k (subst IsTypedArray (sym e) tt) ∙ e

  pub pair_stays : (p : TermId × TermId) → IsWidePair old p → IsWidePair new p
  pair_stays p h =
      let by = keeps_term old new p.1.number k h.3 in
      (h.0, var_stays p.0 h.0 h.1, ap width_of by ∙ h.2, subst IsTyped (sym by) h.3)

  array_pair_stays : (p : ArrayId × ArrayId) → ReplacesArray old p → ReplacesArray new p
  array_pair_stays p h = (h.0, bytes_stay p.0 h.0 h.1, subst IsTypedArray (sym (keeps_array old new p.1.number k h.2)) h.2)

  pub pairs_stay : (ps : List (TermId × TermId)) → All (IsWidePair old) ps → All (IsWidePair new) ps
  pairs_stay ps h = All-weaker (IsWidePair old) (IsWidePair new) pair_stays ps h

  pub array_pairs_stay : (ps : List (ArrayId × ArrayId)) → All (ReplacesArray old) ps → All (ReplacesArray new) ps
  array_pairs_stay ps h = All-weaker (ReplacesArray old) (ReplacesArray new) array_pair_stays ps h

-- two variables as a pair
pub pair_of : (old new : List Node) (k : Keeps old new) (of by : TermId) (x y : Text) → id_term old of ≡ var x 64 → id_term new by ≡ var y 64 → IsWidePair new (of, by)
pair_of old new k of by x y e f = (x, var_stays old new k of x e, ap width_of f, subst IsTyped (sym f) (var_typed y))

-- ---- lists of pairs

module _ (nodes : List Node) where
  pub one_pair : (p : TermId × TermId) → IsWidePair nodes p → All (IsWidePair nodes) (p ∷ [])
  one_pair p h = All-cons (IsWidePair nodes) p [] h (All-nil (IsWidePair nodes))

  pub two_pairs : (p q : TermId × TermId) → IsWidePair nodes p → IsWidePair nodes q → All (IsWidePair nodes) (p ∷ q ∷ [])
  two_pairs p q h k = All-cons (IsWidePair nodes) p (q ∷ []) h (one_pair q k)

  pub one_array : (p : ArrayId × ArrayId) → ReplacesArray nodes p → All (ReplacesArray nodes) (p ∷ [])
  one_array p h = All-cons (ReplacesArray nodes) p [] h (All-nil (ReplacesArray nodes))

  pub no_arrays : All (ReplacesArray nodes) []
  no_arrays = All-nil (ReplacesArray nodes)

-- ---- replacements of 64 bits fit

module _ (by : Replacements) (h : All (λ (q : Text × Tree). width_of q.1 ≡ 64) by.terms) where
  wide_fits : (t : Tree) → HasVariables (λ x w. w ≡ 64) (λ f. ⊤) t → Fits by t
  wide_fits (lit b) v = tt
  wide_fits (var x w) v =
      All-weaker (λ (q : Text × Tree). width_of q.1 ≡ 64) (λ (q : Text × Tree). bytes_eq q.0 x ≡ true → width_of q.1 ≡ w) (λ q e same. e ∙ sym v) by.terms h
  wide_fits (one op a) v = wide_fits a v
  wide_fits (two op a b) v = (wide_fits a v.0, wide_fits b v.1)
  wide_fits (three op a b c) v = (wide_fits a v.0, wide_fits b v.1, wide_fits c v.2)
  wide_fits (sel f i) v = wide_fits i v.1

  wide_array_fits : (f : ArrayTree) → ArrayHasVariables (λ x w. w ≡ 64) (λ f. ⊤) f → FitsArray by f
  wide_array_fits (array f) v = tt
  wide_array_fits (upd f i e) v = (wide_array_fits f v.0, wide_fits i v.1, wide_fits e v.2)
  wide_array_fits (splice f g i) v = (wide_array_fits f v.0, wide_array_fits g v.1, wide_fits i v.2)

module _ (nodes : List Node) (bits : List (TermId × TermId)) (h : All (IsWidePair nodes) bits) where
  pub pairs_replace : All (Replaces nodes) bits
  pairs_replace = All-weaker (IsWidePair nodes) (Replaces nodes) (λ p e. (e.0, e.1 ∙ ap (var e.0) (sym e.2), e.3)) bits h

  all_wide : All (λ (q : Text × Tree). width_of q.1 ≡ 64) (map (named nodes) bits)
  all_wide =
      All-map (λ (q : Text × Tree). width_of q.1 ≡ 64) (named nodes) bits (All-weaker (IsWidePair nodes) (λ p. width_of (named nodes p).1 ≡ 64) (λ p e. e.2) bits h)

  pub pairs_fit : (arrays : List (ArrayId × ArrayId)) (t : Tree) → IsWide t → Fits (replacements nodes bits arrays) t
  pairs_fit arrays t w = wide_fits (replacements nodes bits arrays) all_wide t w.1

  pub pairs_fit_array : (arrays : List (ArrayId × ArrayId)) (f : ArrayTree) → IsWideArray f → FitsArray (replacements nodes bits arrays) f
  pairs_fit_array arrays f w = wide_array_fits (replacements nodes bits arrays) all_wide f w.1

-- ---- what calls give

-- what holds of an array term that is interned holds of the array term of its number
pub array_has : (P : ArrayTree → Type 0) (old new : List Node) (r : Result ArrayId TermFault) (f : ArrayTree) → Makes old new id_array r (λ last. whole_array f) → P f → IfOk r (λ id. P (id_array new id))
array_has P old new (Ok id) f m h = subst P (answer_is f (id_array new id) (m.tells new (keeps_itself new)).0) h
array_has P old new (Err e) f m h = tt

-- a term that is added to itself has the same variables
pub doubled_variables : (old new : List Node) (t : TermId) (r : Result TermId TermFault) → IsWide (id_term old t) → Makes old new id_term r (λ last. said_of (make (two Add (id_term last t) (id_term last t)))) → IfOk r (λ id. HasVariables (λ x w. w ≡ 64) (λ f. ⊤) (id_term new id))
doubled_variables old new t r h m =
    let s = wide_stays old new m.kept t h in
    makes_has (HasVariables (λ x w. w ≡ 64) (λ f. ⊤)) old new id_term r (λ last. make (two Add (id_term last t) (id_term last t))) m
    (make_variables (λ x w. w ≡ 64) (λ f. ⊤) (two Add (id_term new t) (id_term new t)) (s.1, s.1))
