-- Values over terms, in values of the variables, and the operators on them.
use Rattle.std.proofs.Common.{◌≡◌, ℕ, zero, suc, ◌-◌, ◌^◌, ◌<◌, Bool, true, false, not, ◌&&◌, List, [], ◌∷◌, IsSome, is_some, unwrap_or, nat_eq, eqb-true, refl, sym, ap, ap₂, ◌∙◌, subst, subst₂, arith}
use Rattle.std.specs.Prelude.{⊤, if◌then◌else◌}
use Rattle.std.proofs.lemmas.Bool.{and_from}
use Rattle.bv_bits.specs.declared.Op.{Op}
use Rattle.bv_bits.specs.declared.Op.TheVariants as op
use Rattle.bv_bits.specs.Bits.{bit, some_if, result_width_of}
use Rattle.term_tree.specs.Terms.{Tree, one, two, width_of, IsTyped}
use Rattle.term_tree.specs.Values.{Values, IsValues, value}
use Rattle.term_tree.proofs.FitLemmas.{value_fits}
use Rattle.term_tree.proofs.OperatorLemmas.{some_same, width_here, bit_below}
use Rattle.term_make.specs.Making.{make}
use Rattle.term_make.proofs.TypedLemmas.{make_typed, make_width}
use Rattle.term_make.proofs.ValueLemmas.{make_value}
use Rattle.term_arena.specs.Said.{Answer, Answers, Refuses, says, said_just, said_then, answer_then}
use Rattle.term_arena.specs.Nodes.{Meaning}
use Rattle.trace_plain.specs.declared.trace.FailKind.{FailKind}
use Rattle.trace_plain.specs.declared.trace.FailKind.TheVariants as failure
use Rattle.sail_syntax.specs.declared.tree.Infix.{Infix}
use Rattle.sail_syntax.specs.declared.tree.Infix.TheVariants as between
use Rattle.sail_values.specs.declared.value.Value.{Value}
use Rattle.sail_values.specs.declared.value.Value.TheVariants as concrete
use Rattle.sail_values.specs.Values as sail
use Rattle.sail_values.specs.Values.{is_vector}
use Rattle.eval_types.proofs.ValueLemmas.{vector_passes}
use Rattle.sym_rules.specs.Values.{SymValue, sym_unit, sym_truth, sym_bits, sym_member}
use Rattle.sym_rules.specs.Trees.{Telling, making, bit_term}
use Rattle.sym_rules.specs.Operators.{as_bits, as_truth, known_truth, is_unsupported, operate_terms, sym_operate, sym_operate_one, sym_flipped, sym_widened, related, compares_same, as_it_is, sym_same, sym_differ, sym_applied}

-- ---- values over terms

-- the value, where the variables have these values
abbrev pub value_at : Values → SymValue → Value
value_at v sym_unit = concrete.Unit
value_at v (sym_truth t) = concrete.Truth (nat_eq (value v t).value 1)
value_at v (sym_bits t) = concrete.Bits (value v t)
value_at v (sym_member e i) = concrete.Member e i

-- its term is typed, and that of a bool has one bit
abbrev pub IsTypedValue : SymValue → Type 0
IsTypedValue sym_unit = ⊤
IsTypedValue (sym_truth t) = IsTyped t × (width_of t ≡ 1)
IsTypedValue (sym_bits t) = IsTyped t
IsTypedValue (sym_member e i) = ⊤

-- what stands for a value
pub record Is (v : Values) (s : SymValue) (a : Value) : Type 0 where
  pub typed : IsTypedValue s
  pub same : value_at v s ≡ a

-- what stands for a truth
pub record BitIs (v : Values) (t : Tree) (c : Bool) : Type 0 where
  pub typed : IsTyped t
  pub width : width_of t ≡ 1
  pub same : nat_eq (value v t).value 1 ≡ c

-- it is so of what is said, or a division isn't supported
abbrev pub Tells : {X A : Type 0} → (X → A → Type 0) → Answer FailKind X → A → Type 0
Tells P (Answers x) a = P x a
Tells P (Refuses k) a = k ≡ failure.Unsupported

-- one after another
pub tells_then : {X Y A B : Type 0} (P : X → A → Type 0) (Q : Y → B → Type 0) (s : Telling X) (f : X → Telling Y) (a : A) (b : B)
    → Tells P s.answer a → ((x : X) → P x a → Tells Q (f x).answer b) → Tells Q (said_then s f).answer b
unfolding said_then
tells_then {X} P Q s f a b h k = step s.answer s.work h
  where
    step : (r : Answer FailKind X) (done : List Meaning) → Tells P r a → Tells Q (answer_then r done f).answer b
    step (Answers x) done h = k x h
    step (Refuses why) done h = h

-- ---- bits

-- a bit of a truth
pub one_of_bit : (c : Bool) → nat_eq (bit c) 1 ≡ c
one_of_bit true = refl
one_of_bit false = refl

-- the literal of a truth is typed
pub bit_typed : (c : Bool) → IsTyped (bit_term (bit c))
bit_typed c = record { positive = omega (arith); at_most = omega (arith); fits = bit_below c }

-- two bits are the same
bits_same : (m n : ℕ) → m < 2 → n < 2 → nat_eq m n ≡ (if nat_eq m 1 then nat_eq n 1 else not (nat_eq n 1))
bits_same zero zero h k = refl
bits_same zero (suc zero) h k = refl
bits_same zero (suc (suc n)) h k = absurd (omega (arith, k))
bits_same (suc zero) zero h k = refl
bits_same (suc zero) (suc zero) h k = refl
bits_same (suc zero) (suc (suc n)) h k = absurd (omega (arith, k))
bits_same (suc (suc m)) n h k = absurd (omega (arith, h))

module _ (v : Values) (valid : IsValues v) where
  pub vector_at : (t : Tree) → IsTyped t → is_vector (value v t) ≡ true
  vector_at t h = vector_passes (value v t) ((value_fits v t valid h).0)

  pub width_at : (t : Tree) → IsTyped t → (value v t).width ≡ width_of t
  width_at t h = (value_fits v t valid h).1

  pub bit_at : (t : Tree) → IsTyped t → width_of t ≡ 1 → (value v t).value < 2
  bit_at t h e = subst (λ w. (value v t).value < 2 ^ w) ((value_fits v t valid h).1 ∙ e) ((value_fits v t valid h).0.fits)

  -- ---- applications

  one_operated : (o : Op) (a : Tree) → IsTyped a
      → sail.operated o (value v a ∷ []) ≡ (if is_some (result_width_of o (width_of a ∷ [])) then concrete.Bits (value v (one o a)) else concrete.Unit)
  one_operated o a ha =
      ap (λ c. if c && is_some (result_width_of o ((value v a).width ∷ [])) then concrete.Bits (value v (one o a)) else concrete.Unit)
      (and_from (is_vector (value v a)) true (vector_at a ha) refl)
      ∙ ap (λ n. if is_some (result_width_of o (n ∷ [])) then concrete.Bits (value v (one o a)) else concrete.Unit) (width_at a ha)

  two_operated : (o : Op) (a b : Tree) → IsTyped a → IsTyped b
      → sail.operated o (value v a ∷ value v b ∷ []) ≡ (if is_some (result_width_of o (width_of a ∷ width_of b ∷ [])) then concrete.Bits (value v (two o a b)) else concrete.Unit)
  two_operated o a b ha hb =
      ap (λ c. if c && is_some (result_width_of o ((value v a).width ∷ (value v b).width ∷ [])) then concrete.Bits (value v (two o a b)) else concrete.Unit)
      (and_from (is_vector (value v a)) (is_vector (value v b) && true) (vector_at a ha) (and_from (is_vector (value v b)) true (vector_at b hb) refl))
      ∙ ap₂ (λ m n. if is_some (result_width_of o (m ∷ n ∷ [])) then concrete.Bits (value v (two o a b)) else concrete.Unit) (width_at a ha) (width_at b hb)

  -- a term that is made
  made : (t : Tree) → IsTyped t → Is v (sym_bits (make t).it) (concrete.Bits (value v t))
  made t h = record { typed = make_typed t h; same = ap concrete.Bits (make_value v t valid h) }

  made_if : (t : Tree) (c d : Bool) → (c ≡ true → IsTyped t)
      → Tells (Is v) (if c then (if d then says (Refuses failure.Unsupported) else as_bits (making t)) else said_just sym_unit).answer (if c then concrete.Bits (value v t) else concrete.Unit)
  unfolding said_then
  made_if t true true h = refl
  made_if t true false h = made t (h refl)
  made_if t false d h = record { typed = tt; same = refl }

  tells_one : (o : Op) (a : Tree) → IsTyped a → Tells (Is v) (operate_terms o (a ∷ [])).answer (sail.operated o (value v a ∷ []))
  tells_one o a ha =
      subst (Tells (Is v) (operate_terms o (a ∷ [])).answer) (sym (one_operated o a ha))
      (made_if (one o a) (is_some (result_width_of o (width_of a ∷ []))) (is_unsupported o (a ∷ [])) (λ e. (e, ha)))

  tells_two : (o : Op) (a b : Tree) → IsTyped a → IsTyped b → Tells (Is v) (operate_terms o (a ∷ b ∷ [])).answer (sail.operated o (value v a ∷ value v b ∷ []))
  tells_two o a b ha hb =
      subst (Tells (Is v) (operate_terms o (a ∷ b ∷ [])).answer) (sym (two_operated o a b ha hb))
      (made_if (two o a b) (is_some (result_width_of o (width_of a ∷ width_of b ∷ []))) (is_unsupported o (a ∷ b ∷ [])) (λ e. (e, ha, hb)))

  -- nothing comes of values of other types
  unit_is : Is v sym_unit concrete.Unit
  unit_is = record { typed = tt; same = refl }

  operate_at : (o : Op) (s t : SymValue) → IsTypedValue s → IsTypedValue t → Tells (Is v) (sym_operate o s t).answer (sail.operate o (value_at v s) (value_at v t))
  operate_at o (sym_bits a) (sym_bits b) h k = tells_two o a b h k
  operate_at o s t h k = unit_is

  operate_one_at : (o : Op) (s : SymValue) → IsTypedValue s → Tells (Is v) (sym_operate_one o s).answer (sail.operate_one o (value_at v s))
  operate_one_at o (sym_bits a) h = tells_one o a h
  operate_one_at o s h = unit_is

  pub operate_is : (o : Op) {s t : SymValue} {a b : Value} → Is v s a → Is v t b → Tells (Is v) (sym_operate o s t).answer (sail.operate o a b)
  operate_is o {s} {t} h k = subst₂ (λ a b. Tells (Is v) (sym_operate o s t).answer (sail.operate o a b)) h.same k.same (operate_at o s t h.typed k.typed)

  pub operate_one_is : (o : Op) {s : SymValue} {a : Value} → Is v s a → Tells (Is v) (sym_operate_one o s).answer (sail.operate_one o a)
  operate_one_is o {s} h = subst (λ a. Tells (Is v) (sym_operate_one o s).answer (sail.operate_one o a)) h.same (operate_one_at o s h.typed)

  pub flipped_is : {s : SymValue} {a : Value} → Is v s a → Tells (Is v) (sym_flipped s).answer (sail.flipped a)
  flipped_is h = operate_one_is op.Not h

  pub widened_is : (signed : Bool) (to : ℕ) {s : SymValue} {a : Value} → Is v s a → Tells (Is v) (sym_widened signed to s).answer (sail.widened signed to a)
  widened_is true to h = operate_one_is (op.SExt to) h
  widened_is false to h = operate_one_is (op.ZExt to) h

  -- ---- truths

  -- a bit that is made
  pub bit_made : (t : Tree) (c : Bool) → IsTyped t → width_of t ≡ 1 → nat_eq (value v t).value 1 ≡ c → BitIs v (make t).it c
  bit_made t c h e k = record { typed = make_typed t h; width = make_width t h ∙ e; same = ap (λ b. nat_eq b.value 1) (make_value v t valid h) ∙ k }

  truth_made : (t : Tree) (c : Bool) → IsTyped t → width_of t ≡ 1 → nat_eq (value v t).value 1 ≡ c → Tells (Is v) (as_truth (making t)).answer (concrete.Truth c)
  unfolding said_then
  truth_made t c h e k =
      let b = bit_made t c h e k in
      record { typed = (b.typed, b.width); same = ap concrete.Truth b.same }

  pub known_is : (c : Bool) → Tells (Is v) (known_truth c).answer (concrete.Truth c)
  unfolding said_then
  known_is c = record { typed = (bit_typed c, refl); same = ap concrete.Truth (one_of_bit c) }

  -- a bit turned round
  turned : (t : Tree) → IsTyped t → width_of t ≡ 1 → nat_eq (value v (one op.Not t)).value 1 ≡ not (nat_eq (value v t).value 1)
  turned t h e = subst (λ w. nat_eq (2 ^ w - 1 - (value v t).value) 1 ≡ not (nat_eq (value v t).value 1)) (sym (width_at t h ∙ e)) (step (value v t).value (bit_at t h e))
    where
      step : (n : ℕ) → n < 2 → nat_eq (2 ^ 1 - 1 - n) 1 ≡ not (nat_eq n 1)
      step zero l = refl
      step (suc zero) l = refl
      step (suc (suc n)) l = absurd (omega (arith, l))

  pub opposite_made : (t : Tree) (c : Bool) → IsTyped t → width_of t ≡ 1 → nat_eq (value v t).value 1 ≡ c → BitIs v (make (one op.Not t)).it (not c)
  opposite_made t c h e k = bit_made (one op.Not t) (not c) (refl, h) e (turned t h e ∙ ap not k)

  pub opposite_truth : (t : Tree) → IsTyped t → width_of t ≡ 1 → Tells (Is v) (as_truth (making (one op.Not t))).answer (concrete.Truth (not (nat_eq (value v t).value 1)))
  opposite_truth t h e = truth_made (one op.Not t) (not (nat_eq (value v t).value 1)) (refl, h) e (turned t h e)

  -- ---- the same, and differing

  -- an operator that compares, and whether it turns its answer round
  module _ (o : Op) (turn : Bool → Bool) (width : (m n : ℕ) → result_width_of o (m ∷ n ∷ []) ≡ some_if (nat_eq m n) 1)
      (number : (a b : Tree) → (value v (two o a b)).value ≡ bit (turn (nat_eq (value v a).value (value v b).value))) where
    some_width : (a b : Tree) → width_of a ≡ width_of b → IsSome (result_width_of o (width_of a ∷ width_of b ∷ []))
    some_width a b e = subst IsSome (sym (width (width_of a) (width_of b))) (some_same (width_of a) (width_of b) 1 e)

    one_wide : (a b : Tree) → width_of a ≡ width_of b → width_of (two o a b) ≡ 1
    one_wide a b e =
        ap (λ x. unwrap_or x 0) (width (width_of a) (width_of b)) ∙ width_here (nat_eq (width_of a) (width_of b)) 1 (some_same (width_of a) (width_of b) 1 e)

    compared : (a b : Tree) → nat_eq (value v (two o a b)).value 1 ≡ turn (nat_eq (value v a).value (value v b).value)
    compared a b = ap (λ n. nat_eq n 1) (number a b) ∙ one_of_bit (turn (nat_eq (value v a).value (value v b).value))

    related_at : (a b : Tree) → IsTyped a → IsTyped b
        → Tells (Is v) (related o (turn false) a b).answer (concrete.Truth (turn (nat_eq (value v a).width (value v b).width && nat_eq (value v a).value (value v b).value)))
    related_at a b ha hb =
        subst₂ (λ m n. Tells (Is v) (related o (turn false) a b).answer (concrete.Truth (turn (nat_eq m n && nat_eq (value v a).value (value v b).value)))) (sym (width_at a ha)) (sym (width_at b hb))
        (step (nat_eq (width_of a) (width_of b)) refl)
      where
        step : (c : Bool) → nat_eq (width_of a) (width_of b) ≡ c
            → Tells (Is v) (if c then as_truth (making (two o a b)) else known_truth (turn false)).answer (concrete.Truth (turn (c && nat_eq (value v a).value (value v b).value)))
        step true e =
            let w = eqb-true (width_of a) (width_of b) e in
            truth_made (two o a b) (turn (nat_eq (value v a).value (value v b).value)) (some_width a b w, ha, hb) (one_wide a b w) (compared a b)
        step false e = known_is (turn false)

    truths_at : (a b : Tree) → IsTypedValue (sym_truth a) → IsTypedValue (sym_truth b)
        → Tells (Is v) (as_truth (making (two o a b))).answer (concrete.Truth (turn (if nat_eq (value v a).value 1 then nat_eq (value v b).value 1 else not (nat_eq (value v b).value 1))))
    truths_at a b ha hb =
        let w = ha.1 ∙ sym hb.1 in
        truth_made (two o a b) _ (some_width a b w, ha.0, hb.0) (one_wide a b w)
        (compared a b ∙ ap turn (bits_same (value v a).value (value v b).value (bit_at a ha.0 ha.1) (bit_at b hb.0 hb.1)))

    pub compares_at : (s t : SymValue) → IsTypedValue s → IsTypedValue t
        → Tells (Is v) (compares_same o turn s t).answer (concrete.Truth (turn (sail.same (value_at v s) (value_at v t))))
    compares_at (sym_bits a) (sym_bits b) h k = related_at a b h k
    compares_at (sym_truth a) (sym_truth b) h k = truths_at a b h k
    compares_at sym_unit sym_unit h k = known_is (turn true)
    compares_at (sym_member e i) (sym_member f j) h k = known_is (turn (nat_eq e f && nat_eq i j))
    compares_at s t h k = known_is (turn false)

  same_at : (s t : SymValue) → IsTypedValue s → IsTypedValue t → Tells (Is v) (sym_same s t).answer (concrete.Truth (sail.same (value_at v s) (value_at v t)))
  same_at s t h k = compares_at op.Eq as_it_is (λ m n. refl) (λ a b. refl) s t h k

  differ_at : (s t : SymValue) → IsTypedValue s → IsTypedValue t → Tells (Is v) (sym_differ s t).answer (concrete.Truth (not (sail.same (value_at v s) (value_at v t))))
  differ_at s t h k = compares_at op.Ne not (λ m n. refl) (λ a b. refl) s t h k

  -- ---- infix operators

  applied_at : (o : Infix) (s t : SymValue) → IsTypedValue s → IsTypedValue t → Tells (Is v) (sym_applied o s t).answer (sail.applied o (value_at v s) (value_at v t))
  applied_at between.Add s t h k = operate_at op.Add s t h k
  applied_at between.Sub s t h k = operate_at op.Sub s t h k
  applied_at between.Mul s t h k = operate_at op.Mul s t h k
  applied_at between.And (sym_truth a) t h k = record { typed = k; same = refl }
  applied_at between.And (sym_bits a) t h k = operate_at op.And (sym_bits a) t h k
  applied_at between.And sym_unit t h k = operate_at op.And sym_unit t h k
  applied_at between.And (sym_member e i) t h k = operate_at op.And (sym_member e i) t h k
  applied_at between.Or (sym_truth a) t h k = record { typed = k; same = refl }
  applied_at between.Or (sym_bits a) t h k = operate_at op.Or (sym_bits a) t h k
  applied_at between.Or sym_unit t h k = operate_at op.Or sym_unit t h k
  applied_at between.Or (sym_member e i) t h k = operate_at op.Or (sym_member e i) t h k
  applied_at between.Xor s t h k = operate_at op.Xor s t h k
  applied_at between.Join s t h k = operate_at op.Concat s t h k
  applied_at between.Eq s t h k = same_at s t h k
  applied_at between.Ne s t h k = differ_at s t h k

  pub applied_is : (o : Infix) {s t : SymValue} {a b : Value} → Is v s a → Is v t b → Tells (Is v) (sym_applied o s t).answer (sail.applied o a b)
  applied_is o {s} {t} h k = subst₂ (λ a b. Tells (Is v) (sym_applied o s t).answer (sail.applied o a b)) h.same k.same (applied_at o s t h.typed k.typed)
