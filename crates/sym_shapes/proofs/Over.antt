-- Terms and values over bound variables, and the operators on them.
use Rattle.std.proofs.Common.{◌≡◌, ℕ, suc, zero, Bool, true, false, not, ◌&&◌, List, [], ◌∷◌, ◌++◌, Option, Some, IsSome, is_some, unwrap_or, nat_eq, eqb-true, refl, sym, ap, ◌∙◌, subst, append_assoc, append-nil}
use Rattle.std.specs.Prelude.{⊤, if◌then◌else◌, slice_get}
use Rattle.bv_bits.specs.declared.Bits.{Bits}
use Rattle.bv_bits.specs.declared.Op.{Op}
use Rattle.bv_bits.specs.declared.Op.TheVariants as op
use Rattle.bv_bits.specs.Bits.{IsBits, bit, some_if, result_width_of}
use Rattle.sail_syntax.specs.declared.tree.Infix.{Infix}
use Rattle.sail_syntax.specs.declared.tree.Infix.TheVariants as between
use Rattle.term_tree.specs.Terms.{Text, Tree, lit, var, one, two, three, sel, width_of, IsTyped}
use Rattle.term_tree.specs.Divisions.{is_division, HasNoDivision}
use Rattle.term_tree.specs.Variables.{HasVariables}
use Rattle.term_tree.proofs.OperatorLemmas.{some_same, width_here}
use Rattle.term_make.specs.Making.{make}
use Rattle.term_make.proofs.TypedLemmas.{make_typed, make_width}
use Rattle.term_make.proofs.DivisionLemmas.{make_whole}
use Rattle.term_make.proofs.VariableLemmas.{make_variables}
use Rattle.term_arena.specs.Said.{Answer, Answers, Refuses, says, said_just, said_then, answer_then}
use Rattle.term_arena.specs.Nodes.{Meaning}
use Rattle.trace_plain.specs.declared.trace.FailKind.{FailKind}
use Rattle.trace_plain.specs.declared.trace.FailKind.TheVariants as failure
use Rattle.trace_plain.specs.Rules.{IsBound, Fits}
use Rattle.sym_rules.specs.Values.{SymValue, sym_unit, sym_truth, sym_bits, sym_member}
use Rattle.sym_rules.specs.Trees.{Telling, making, bit_term}
use Rattle.sym_rules.specs.Operators.{as_bits, as_truth, known_truth, is_unsupported, operate_terms, sym_operate, sym_operate_one, sym_flipped, sym_widened, related, compares_same, as_it_is, sym_applied}
use Rattle.sym_rules.specs.Prelude.{tested, sym_compared, opposite_of}
use Rattle.sym_follows.proofs.Values.{bit_typed}

-- ---- terms

-- a typed term over bound variables, without a division or an array
pub record IsOver (bound : List ℕ) (t : Tree) : Type 0 where
  pub typed : IsTyped t
  pub whole : HasNoDivision t
  pub variables : HasVariables (IsBound bound) (λ f. ⊥) t

-- one of one bit
pub record IsBitOver (bound : List ℕ) (t : Tree) : Type 0 where
  pub over : IsOver bound t
  pub width : width_of t ≡ 1

-- a value whose terms are so; that of a bool has one bit
abbrev pub IsValueOver : List ℕ → SymValue → Type 0
IsValueOver bound sym_unit = ⊤
IsValueOver bound (sym_truth t) = IsBitOver bound t
IsValueOver bound (sym_bits t) = IsOver bound t
IsValueOver bound (sym_member e i) = ⊤

-- it is so of what is said, if something is
abbrev pub Says : {X : Type 0} → (X → Type 0) → Answer FailKind X → Type 0
Says P (Answers x) = P x
Says P (Refuses k) = ⊤

-- one after another
pub says_then : {X Y : Type 0} (P : X → Type 0) (Q : Y → Type 0) (s : Telling X) (f : X → Telling Y) → Says P s.answer → ((x : X) → P x → Says Q (f x).answer) → Says Q (said_then s f).answer
unfolding said_then
says_then {X} P Q s f h k = step s.answer s.work h
  where
    step : (r : Answer FailKind X) (done : List Meaning) → Says P r → Says Q (answer_then r done f).answer
    step (Answers x) done h = k x h
    step (Refuses why) done h = tt

pub says_if : {X : Type 0} (P : X → Type 0) (c : Bool) (s t : Telling X) → (c ≡ true → Says P s.answer) → (c ≡ false → Says P t.answer) → Says P (if c then s else t).answer
says_if P true s t h k = h refl
says_if P false s t h k = k refl

-- ---- more variables

-- further variables are bound
pub record Extends (bound more : List ℕ) : Type 0 where
  pub rest : List ℕ
  pub is : more ≡ bound ++ rest

pub extends_none : (bound : List ℕ) → Extends bound bound
extends_none bound = record { rest = []; is = sym (append-nil bound) }

pub extends_trans : {a b c : List ℕ} → Extends a b → Extends b c → Extends a c
extends_trans {a} x y = record { rest = x.rest ++ y.rest; is = y.is ∙ ap (λ l. l ++ y.rest) x.is ∙ append_assoc a x.rest y.rest }

pub extends_one : (bound : List ℕ) (w : ℕ) → Extends bound (bound ++ w ∷ [])
extends_one bound w = record { rest = w ∷ []; is = refl }

-- what is found stays
still_found : (xs ys : List ℕ) (n w : ℕ) → slice_get xs n ≡ Some w → slice_get (xs ++ ys) n ≡ Some w
still_found [] ys n w e = absurd cc
still_found (x ∷ xs) ys zero w e = e
still_found (x ∷ xs) ys (suc n) w e = still_found xs ys n w e

variables_more : {bound more : List ℕ} → Extends bound more → (t : Tree) → HasVariables (IsBound bound) (λ f. ⊥) t → HasVariables (IsBound more) (λ f. ⊥) t
variables_more x (lit b) h = tt
variables_more {bound} x (var y w) h = record { number = h.number; name = h.name; width = ap (λ l. slice_get l h.number) x.is ∙ still_found bound x.rest h.number w h.width }
variables_more x (one o a) h = variables_more x a h
variables_more x (two o a b) h = (variables_more x a h.0, variables_more x b h.1)
variables_more x (three o a b c) h = (variables_more x a h.0, variables_more x b h.1, variables_more x c h.2)
variables_more x (sel f i) h = absurd h.0

pub over_more : {bound more : List ℕ} → Extends bound more → (t : Tree) → IsOver bound t → IsOver more t
over_more x t h = record { typed = h.typed; whole = h.whole; variables = variables_more x t h.variables }

pub value_more : {bound more : List ℕ} → Extends bound more → (s : SymValue) → IsValueOver bound s → IsValueOver more s
value_more x sym_unit h = tt
value_more x (sym_truth t) h = record { over = over_more x t h.over; width = h.width }
value_more x (sym_bits t) h = over_more x t h
value_more x (sym_member e i) h = tt

module _ (bound : List ℕ) where
  -- ---- terms that are made

  pub fits_of : (w : ℕ) (t : Tree) → IsOver bound t → width_of t ≡ w → Fits bound w t
  fits_of w t h e = record { width = e; variables = h.variables }

  pub literal_over : (b : Bits) → IsBits b → IsOver bound (lit b)
  literal_over b h = record { typed = h; whole = tt; variables = tt }

  pub made_over : (t : Tree) → IsOver bound t → IsOver bound (make t).it
  made_over t h = record { typed = make_typed t h.typed; whole = make_whole t h.whole; variables = make_variables (IsBound bound) (λ f. ⊥) t h.variables }

  pub bit_made : (t : Tree) → IsOver bound t → width_of t ≡ 1 → IsBitOver bound (make t).it
  bit_made t h e = record { over = made_over t h; width = make_width t h.typed ∙ e }

  -- an application of terms
  pub one_over : (o : Op) (a : Tree) → IsSome (result_width_of o (width_of a ∷ [])) → is_division o ≡ false → IsOver bound a → IsOver bound (one o a)
  one_over o a w d h = record { typed = (w, h.typed); whole = (d, h.whole); variables = h.variables }

  pub two_over : (o : Op) (a b : Tree) → IsSome (result_width_of o (width_of a ∷ width_of b ∷ [])) → is_division o ≡ false → IsOver bound a → IsOver bound b → IsOver bound (two o a b)
  two_over o a b w d h k = record { typed = (w, h.typed, k.typed); whole = (d, h.whole, k.whole); variables = (h.variables, k.variables) }

  -- an operator on two literals is a literal
  literals_made : (o : Op) (a b : Bits) → IsSome (result_width_of o (a.width ∷ b.width ∷ [])) → IsBits a → IsBits b → IsOver bound (make (two o (lit a) (lit b))).it
  literals_made o a b w h k = record { typed = make_typed (two o (lit a) (lit b)) (w, h, k); whole = tt; variables = tt }

  -- ---- operators on values

  one_operated : (o : Op) (a : Tree) → is_division o ≡ false → IsOver bound a → Says (IsValueOver bound) (operate_terms o (a ∷ [])).answer
  unfolding said_then
  one_operated o a d h = step (is_some (result_width_of o (width_of a ∷ []))) (is_unsupported o (a ∷ [])) refl
    where
      step : (c e : Bool) → is_some (result_width_of o (width_of a ∷ [])) ≡ c
          → Says (IsValueOver bound) (if c then (if e then says (Refuses failure.Unsupported) else as_bits (making (one o a))) else said_just sym_unit).answer
      step true true k = tt
      step true false k = made_over (one o a) (one_over o a k d h)
      step false e k = tt

  -- a division that is made has literals
  divided : (o : Op) (a b : Tree) → is_division o ≡ true → is_some (result_width_of o (width_of a ∷ width_of b ∷ [])) ≡ true → IsOver bound a → IsOver bound b
      → Says (IsValueOver bound) (if is_unsupported o (a ∷ b ∷ []) then says (Refuses failure.Unsupported) else as_bits (making (two o a b))).answer
  unfolding said_then
  divided o a b d k g h = refused a b d k g h
    where
      refuses : (c : Bool) (s : Telling SymValue) → c ≡ true → Says (IsValueOver bound) (if c then says (Refuses failure.Unsupported) else s).answer
      refuses true s e = tt
      refuses false s e = absurd cc

      divides : (c : Bool) (s : Telling SymValue) → Says (IsValueOver bound) s.answer → Says (IsValueOver bound) (if c then says (Refuses failure.Unsupported) else s).answer
      divides true s e = tt
      divides false s e = e

      all_but : (a b : Tree) → is_division o ≡ true → is_unsupported o (a ∷ b ∷ []) ≡ true → Says (IsValueOver bound) (if is_unsupported o (a ∷ b ∷ []) then says (Refuses failure.Unsupported) else as_bits (making (two o a b))).answer
      all_but a b d e = refuses (is_unsupported o (a ∷ b ∷ [])) (as_bits (making (two o a b))) e

      refused : (a b : Tree) → is_division o ≡ true → is_some (result_width_of o (width_of a ∷ width_of b ∷ [])) ≡ true → IsOver bound a → IsOver bound b
          → Says (IsValueOver bound) (if is_unsupported o (a ∷ b ∷ []) then says (Refuses failure.Unsupported) else as_bits (making (two o a b))).answer
      refused (lit x) (lit y) d k g h = divides (is_unsupported o (lit x ∷ lit y ∷ [])) (as_bits (making (two o (lit x) (lit y)))) (literals_made o x y k g.typed h.typed)
      refused (lit x) (var y w) d k g h = all_but (lit x) (var y w) d (ap (λ c. c && true) d)
      refused (lit x) (one f u) d k g h = all_but (lit x) (one f u) d (ap (λ c. c && true) d)
      refused (lit x) (two f u v) d k g h = all_but (lit x) (two f u v) d (ap (λ c. c && true) d)
      refused (lit x) (three f u v w) d k g h = all_but (lit x) (three f u v w) d (ap (λ c. c && true) d)
      refused (lit x) (sel f u) d k g h = all_but (lit x) (sel f u) d (ap (λ c. c && true) d)
      refused (var y w) b d k g h = all_but (var y w) b d (ap (λ c. c && true) d)
      refused (one f u) b d k g h = all_but (one f u) b d (ap (λ c. c && true) d)
      refused (two f u v) b d k g h = all_but (two f u v) b d (ap (λ c. c && true) d)
      refused (three f u v w) b d k g h = all_but (three f u v w) b d (ap (λ c. c && true) d)
      refused (sel f u) b d k g h = all_but (sel f u) b d (ap (λ c. c && true) d)

  two_operated : (o : Op) (a b : Tree) → IsOver bound a → IsOver bound b → Says (IsValueOver bound) (operate_terms o (a ∷ b ∷ [])).answer
  unfolding said_then
  two_operated o a b g h =
      says_if (IsValueOver bound) (is_some (result_width_of o (width_of a ∷ width_of b ∷ []))) (if is_unsupported o (a ∷ b ∷ []) then says (Refuses failure.Unsupported) else as_bits (making (two o a b))) (said_just sym_unit)
      (λ k. step (is_division o) refl k) (λ k. tt)
    where
      whole : (e : Bool) → is_division o ≡ false → is_some (result_width_of o (width_of a ∷ width_of b ∷ [])) ≡ true
          → Says (IsValueOver bound) (if e then says (Refuses failure.Unsupported) else as_bits (making (two o a b))).answer
      whole true d k = tt
      whole false d k = made_over (two o a b) (two_over o a b k d g h)

      step : (d : Bool) → is_division o ≡ d → is_some (result_width_of o (width_of a ∷ width_of b ∷ [])) ≡ true
          → Says (IsValueOver bound) (if is_unsupported o (a ∷ b ∷ []) then says (Refuses failure.Unsupported) else as_bits (making (two o a b))).answer
      step true d k = divided o a b d k g h
      step false d k = whole (is_unsupported o (a ∷ b ∷ [])) d k

  pub operate_over : (o : Op) (s t : SymValue) → IsValueOver bound s → IsValueOver bound t → Says (IsValueOver bound) (sym_operate o s t).answer
  operate_over o (sym_bits a) (sym_bits b) h k = two_operated o a b h k
  operate_over o s t h k = tt

  pub operate_one_over : (o : Op) (s : SymValue) → is_division o ≡ false → IsValueOver bound s → Says (IsValueOver bound) (sym_operate_one o s).answer
  operate_one_over o (sym_bits a) d h = one_operated o a d h
  operate_one_over o s d h = tt

  pub flipped_over : (s : SymValue) → IsValueOver bound s → Says (IsValueOver bound) (sym_flipped s).answer
  flipped_over s h = operate_one_over op.Not s refl h

  pub widened_over : (signed : Bool) (to : ℕ) (s : SymValue) → IsValueOver bound s → Says (IsValueOver bound) (sym_widened signed to s).answer
  widened_over true to s h = operate_one_over (op.SExt to) s refl h
  widened_over false to s h = operate_one_over (op.ZExt to) s refl h

  -- ---- truths

  pub bit_over : (c : Bool) → IsBitOver bound (bit_term (bit c))
  bit_over c = record { over = record { typed = bit_typed c; whole = tt; variables = tt }; width = refl }

  pub known_over : (c : Bool) → Says (IsValueOver bound) (known_truth c).answer
  unfolding said_then
  known_over c = bit_over c

  truth_made : (t : Tree) → IsOver bound t → width_of t ≡ 1 → Says (IsValueOver bound) (as_truth (making t)).answer
  unfolding said_then
  truth_made t h e = bit_made t h e

  pub opposite_made_over : (t : Tree) → IsBitOver bound t → IsBitOver bound (make (one op.Not t)).it
  opposite_made_over t h = bit_made (one op.Not t) (one_over op.Not t refl refl h.over) h.width

  pub opposite_over : (s : SymValue) → IsValueOver bound s → Says (IsValueOver bound) (opposite_of s).answer
  opposite_over (sym_truth t) h = truth_made (one op.Not t) (one_over op.Not t refl refl h.over) h.width
  opposite_over sym_unit h = known_over true
  opposite_over (sym_bits t) h = known_over true
  opposite_over (sym_member e i) h = known_over true

  -- ---- the same, and differing

  -- an operator of one bit on two terms of one width
  module _ (o : Op) (width : (m n : ℕ) → result_width_of o (m ∷ n ∷ []) ≡ some_if (nat_eq m n) 1) (whole : is_division o ≡ false) where
    some_width : (a b : Tree) → width_of a ≡ width_of b → IsSome (result_width_of o (width_of a ∷ width_of b ∷ []))
    some_width a b e = subst IsSome (sym (width (width_of a) (width_of b))) (some_same (width_of a) (width_of b) 1 e)

    one_wide : (a b : Tree) → width_of a ≡ width_of b → width_of (two o a b) ≡ 1
    one_wide a b e =
        ap (λ x. unwrap_or x 0) (width (width_of a) (width_of b)) ∙ width_here (nat_eq (width_of a) (width_of b)) 1 (some_same (width_of a) (width_of b) 1 e)

    same_made : (a b : Tree) → width_of a ≡ width_of b → IsOver bound a → IsOver bound b → Says (IsValueOver bound) (as_truth (making (two o a b))).answer
    same_made a b e g h = truth_made (two o a b) (two_over o a b (some_width a b e) whole g h) (one_wide a b e)

    related_over : (turn : Bool → Bool) (a b : Tree) → IsOver bound a → IsOver bound b → Says (IsValueOver bound) (related o (turn false) a b).answer
    related_over turn a b g h =
        says_if (IsValueOver bound) (nat_eq (width_of a) (width_of b)) (as_truth (making (two o a b))) (known_truth (turn false))
        (λ e. same_made a b (eqb-true (width_of a) (width_of b) e) g h) (λ e. known_over (turn false))

    pub compares_over : (turn : Bool → Bool) (s t : SymValue) → IsValueOver bound s → IsValueOver bound t → Says (IsValueOver bound) (compares_same o turn s t).answer
    compares_over turn (sym_bits a) (sym_bits b) g h = related_over turn a b g h
    compares_over turn (sym_truth a) (sym_truth b) g h = same_made a b (g.width ∙ sym h.width) g.over h.over
    compares_over turn sym_unit sym_unit g h = known_over (turn true)
    compares_over turn (sym_member e i) (sym_member f j) g h = known_over (turn (nat_eq e f && nat_eq i j))
    compares_over turn s t g h = known_over (turn false)

    -- a comparison of vectors
    tested_made : (a b : Tree) → IsOver bound a → IsOver bound b → Says (IsValueOver bound) (said_then (operate_terms o (a ∷ b ∷ [])) tested).answer
    unfolding said_then
    tested_made a b g h = step (is_some (result_width_of o (width_of a ∷ width_of b ∷ []))) (is_unsupported o (a ∷ b ∷ [])) refl
      where
        step : (c e : Bool) → is_some (result_width_of o (width_of a ∷ width_of b ∷ [])) ≡ c
            → Says (IsValueOver bound) (said_then (if c then (if e then says (Refuses failure.Unsupported) else as_bits (making (two o a b))) else said_just sym_unit) tested).answer
        step true true k = tt
        step true false k = bit_made (two o a b) (two_over o a b k whole g h) (ap (λ x. unwrap_or x 0) (width (width_of a) (width_of b)) ∙ width_here (nat_eq (width_of a) (width_of b)) 1 (subst IsSome (width (width_of a) (width_of b)) k))
        step false e k = bit_over false

    pub compared_over : (s t : SymValue) → IsValueOver bound s → IsValueOver bound t → Says (IsValueOver bound) (sym_compared o s t).answer
    unfolding said_then
    compared_over (sym_bits a) (sym_bits b) g h = tested_made a b g h
    compared_over s t g h = bit_over false

  -- ---- infix operators

  pub applied_over : (o : Infix) (s t : SymValue) → IsValueOver bound s → IsValueOver bound t → Says (IsValueOver bound) (sym_applied o s t).answer
  applied_over between.Add s t h k = operate_over op.Add s t h k
  applied_over between.Sub s t h k = operate_over op.Sub s t h k
  applied_over between.Mul s t h k = operate_over op.Mul s t h k
  applied_over between.And (sym_truth a) t h k = k
  applied_over between.And (sym_bits a) t h k = operate_over op.And (sym_bits a) t h k
  applied_over between.And sym_unit t h k = operate_over op.And sym_unit t h k
  applied_over between.And (sym_member e i) t h k = operate_over op.And (sym_member e i) t h k
  applied_over between.Or (sym_truth a) t h k = k
  applied_over between.Or (sym_bits a) t h k = operate_over op.Or (sym_bits a) t h k
  applied_over between.Or sym_unit t h k = operate_over op.Or sym_unit t h k
  applied_over between.Or (sym_member e i) t h k = operate_over op.Or (sym_member e i) t h k
  applied_over between.Xor s t h k = operate_over op.Xor s t h k
  applied_over between.Join s t h k = operate_over op.Concat s t h k
  applied_over between.Eq s t h k = compares_over op.Eq (λ m n. refl) refl as_it_is s t h k
  applied_over between.Ne s t h k = compares_over op.Ne (λ m n. refl) refl not s t h k
