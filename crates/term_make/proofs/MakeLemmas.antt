-- What the code that makes terms owes: the parts of right sides are low, and answers follow the rules.
use Rattle.std.proofs.Common.{◌≡◌, ◌<◌, ◌≤◌, Bool, true, false, cond, List, [], ◌∷◌, Some, refl, ap, sym, ◌∙◌, subst, arith}
use Rattle.std.specs.Prelude.{⊤, All, IfOk, IsSome, Result, Ok, Err}
use Rattle.std.proofs.lemmas.List.Elements.{All-head, All-tail, All-nil, All-cons}
use Rattle.bv_bits.specs.declared.Bits.{Bits}
use Rattle.bv_bits.specs.declared.Op.{Op}
use Rattle.bv_bits.specs.declared.Op.TheVariants.{Add}
use Rattle.bv_bits.specs.Bits.{result_width_of, IsBits}
use Rattle.term_tree.specs.declared.term.Term.{Term}
use Rattle.term_tree.specs.declared.term.TermFault.{TermFault}
use Rattle.term_tree.specs.View.{tree}
use Rattle.term_make.specs.Answers.{Answers}
use Rattle.term_tree.specs.Values.{Values, IsValues, value}
use Rattle.term_make.proofs.ValueLemmas.{make_value}
use Rattle.term_make.proofs.AnswerLemmas.{answers_ruled, answers_then, answers_fault, within_is}
use Rattle.term_rules.proofs.TypedLemmas.{right_typed}
use Rattle.term_make.proofs.TypedLemmas.{make_typed, make_width, two_typed}
use Rattle.term_tree.specs.Terms.{Tree, lit, one, two, three, width_of, IsTyped, IsTerm, applied, height, HIGHEST}
use Rattle.term_rules.specs.Rules.{Right, given, made_one, made_two, rule_of}
use Rattle.term_make.specs.Making.{make, within_height}
use Rattle.term_rules.proofs.Rewrites.{Rewrites, ite_literal}
use Rattle.term_rules.proofs.RewriteLemmas.{rewrites}
use Rattle.term_make.proofs.SizeLemmas.{IsWithin, work, make_size, rewrites_within}

-- the applications on a right side are less work than its left side
pub calls_below : (t : Tree) (r : Right) → rule_of t ≡ Some r → IsWithin make (work t) r
calls_below t r e = rewrites_within make make_size (rewrites t r e)

-- ---- heights

-- the arguments of an application are at most so high
abbrev pub PartsLow : Tree → Type 0
PartsLow (one op a) = height a ≤ HIGHEST
PartsLow (two op a b) = (height a ≤ HIGHEST) × (height b ≤ HIGHEST)
PartsLow (three op a b c) = (height a ≤ HIGHEST) × (height b ≤ HIGHEST) × (height c ≤ HIGHEST)
PartsLow t = ⊤

-- the terms that are there on a right side are at most so high
abbrev pub GivenLow : Right → Type 0
GivenLow (given t) = height t ≤ HIGHEST
GivenLow (made_one op r) = GivenLow r
GivenLow (made_two op r s) = GivenLow r × GivenLow s

branch_low : (b : Bool) (x y : Tree) → height x ≤ HIGHEST → height y ≤ HIGHEST → height (cond b x y) ≤ HIGHEST
branch_low true x y h k = h
branch_low false x y h k = k

low_by : {t : Tree} {r : Right} → Rewrites t r → PartsLow t → GivenLow r
low_by (ite_literal t x y) h = branch_low _ x y h.1 h.2
low_by w h = grind (arith)

-- the terms that a rule takes over are no higher than the arguments
pub given_low : (t : Tree) (r : Right) → rule_of t ≡ Some r → PartsLow t → GivenLow r
given_low t r e h = low_by (rewrites t r e) h

-- the parts of an application of a list of low terms
pub parts_low : (op : Op) (l : List Tree) → All (λ t. height t ≤ HIGHEST) l → PartsLow (applied op l)
parts_low op [] h = tt
parts_low op (a ∷ []) h = All-head (λ t. height t ≤ HIGHEST) a [] h
parts_low op (a ∷ b ∷ []) h =
    (All-head (λ t. height t ≤ HIGHEST) a (b ∷ []) h, All-head (λ t. height t ≤ HIGHEST) b [] (All-tail (λ t. height t ≤ HIGHEST) a (b ∷ []) h))
parts_low op (a ∷ b ∷ c ∷ []) h =
    let rest = All-tail (λ t. height t ≤ HIGHEST) a (b ∷ c ∷ []) h in
    (All-head (λ t. height t ≤ HIGHEST) a (b ∷ c ∷ []) h, All-head (λ t. height t ≤ HIGHEST) b (c ∷ []) rest, All-head (λ t. height t ≤ HIGHEST) c [] (All-tail (λ t. height t ≤ HIGHEST) b (c ∷ []) rest))
parts_low op (a ∷ b ∷ c ∷ d ∷ l) h = tt

-- ---- each form of right side: what its applications owe, and how their answers are the answer of the whole

-- whether an answer is low
abbrev pub IsLow : Result Term TermFault → Type 0
IsLow r = IfOk r (λ t. height (tree t) ≤ HIGHEST)

-- a term that is there
pub record GivenArm (t u : Tree) : Type 0 where
  pub typed : IsTyped u
  pub low : height u ≤ HIGHEST
  pub answer : within_height (make t) ≡ Some u

pub given_arm : (t u : Tree) → IsTyped t → PartsLow t → rule_of t ≡ Some (given u) → GivenArm t u
given_arm t u h low e =
    let typed = right_typed t (given u) h e in
    let below : height u ≤ HIGHEST = given_low t (given u) e low in
    record {
      typed = typed.0;
      low = below;
      answer = answers_ruled (λ (x : Tree). x) t (given u) (Ok u) e refl below;
    }

-- one application
pub record Arm (t u : Tree) : Type 0 where
  pub typed : IsTyped u
  pub parts : PartsLow u
  pub less : work u < work t
  pub answer : (r : Result Term TermFault) → Answers tree (make u) r → IsLow r → Answers tree (make t) r

pub one_arm : (t : Tree) (op : Op) (a : Tree) → IsTyped t → PartsLow t → rule_of t ≡ Some (made_one op (given a)) → Arm t (one op a)
one_arm t op a h low e =
    let right = made_one op (given a) in
    record {
      typed = (right_typed t right h e).0;
      parts = given_low t right e low;
      less = (calls_below t right e).1;
      answer = λ r k l. answers_ruled tree t right r e k l;
    }

pub two_arm : (t : Tree) (op : Op) (a b : Tree) → IsTyped t → PartsLow t → rule_of t ≡ Some (made_two op (given a) (given b)) → Arm t (two op a b)
two_arm t op a b h low e =
    let right = made_two op (given a) (given b) in
    record {
      typed = (right_typed t right h e).0;
      parts = given_low t right e low;
      less = (calls_below t right e).2;
      answer = λ r k l. answers_ruled tree t right r e k l;
    }

-- an application, and the sum of what is made of it and a literal
pub record PlusArm (t : Tree) (op : Op) (a b : Tree) (c : Bits) : Type 0 where
  pub typed : IsTyped (two op a b)
  pub parts : PartsLow (two op a b)
  pub less : work (two op a b) < work t
  pub outer_typed : (s : Term) → Answers tree (make (two op a b)) (Ok s) → IsTyped (two Add (tree s) (lit c))
  pub outer_less : (s : Term) → Answers tree (make (two op a b)) (Ok s) → work (two Add (tree s) (lit c)) < work t
  pub answer : (s : Term) (r : Result Term TermFault) → Answers tree (make (two op a b)) (Ok s) → Answers tree (make (two Add (tree s) (lit c))) r → IsLow r → Answers tree (make t) r
  pub fault : (f : TermFault) → Answers tree (make (two op a b)) (Err f) → Answers tree (make t) (Err f)

pub plus_arm : (t : Tree) (op : Op) (a b : Tree) (c : Bits) → IsTyped t → PartsLow t → rule_of t ≡ Some (made_two Add (made_two op (given a) (given b)) (given (lit c))) → PlusArm t op a b c
plus_arm t op a b c h low e =
    let right = made_two Add (made_two op (given a) (given b)) (given (lit c)) in
    let typed = (right_typed t right h e).0 in
    let inner = typed.1 in
    let less = calls_below t right e in
    let after = (λ (s : Tree). make (two Add s (lit c))) in
    record {
      typed = inner;
      parts = (given_low t right e low).0;
      less = less.0.2;
      outer_typed = λ s k. outer_type op a b c (tree s) inner typed.0 typed.2 (within_is (make (two op a b)) (tree s) k).1;
      outer_less = λ s k. subst (λ x. work (two Add x (lit c)) < work t) (within_is (make (two op a b)) (tree s) k).1 less.2;
      answer = λ s r k m l. answers_ruled tree t right r e (answers_then tree tree (make (two op a b)) after s r k m) l;
      fault = λ f k. answers_ruled tree t right (Err f) e (answers_fault tree tree (make (two op a b)) after f k) tt;
    }
  where
    outer_type : (op : Op) (a b : Tree) (c : Bits) (s : Tree) → IsTyped (two op a b) → IsSome (result_width_of Add (width_of (two op a b) ∷ c.width ∷ [])) → IsBits c → (make (two op a b)).it ≡ s → IsTyped (two Add s (lit c))
    outer_type op a b c s inner fits bits k =
        let typed = subst IsTyped k (make_typed (two op a b) inner) in
        let wide = ap width_of (sym k) ∙ make_width (two op a b) inner in
        (two_typed Add s (lit c) (width_of (two op a b)) c.width fits typed bits wide refl).0

-- ---- the calls for them: the arguments as a list

-- what a call for an application owes: it is less work, typed, and of low arguments
abbrev pub Call : Tree → Op → List Tree → Type 0
Call t op m = (work (applied op m) < work t) × (IsTyped (applied op m) × All (λ u. height u ≤ HIGHEST) m)

one_low : (a : Tree) → height a ≤ HIGHEST → All (λ u. height u ≤ HIGHEST) (a ∷ [])
one_low a h = All-cons (λ u. height u ≤ HIGHEST) a [] h (All-nil (λ u. height u ≤ HIGHEST))

two_low : (a b : Tree) → height a ≤ HIGHEST → height b ≤ HIGHEST → All (λ u. height u ≤ HIGHEST) (a ∷ b ∷ [])
two_low a b h k = All-cons (λ u. height u ≤ HIGHEST) a (b ∷ []) h (one_low b k)

pub call_one : (t : Tree) (op : Op) (a : Tree) (m : List Tree) → m ≡ a ∷ [] → Arm t (one op a) → Call t op m
call_one t op a m e arm = subst (Call t op) (sym e) (arm.less, (arm.typed, one_low a arm.parts))

pub call_two : (t : Tree) (op : Op) (a b : Tree) (m : List Tree) → m ≡ a ∷ b ∷ [] → Arm t (two op a b) → Call t op m
call_two t op a b m e arm = subst (Call t op) (sym e) (arm.less, (arm.typed, two_low a b arm.parts.0 arm.parts.1))

pub answer_one : (t : Tree) (op : Op) (a : Tree) (m : List Tree) (r : Result Term TermFault) → m ≡ a ∷ [] → Arm t (one op a) → Answers tree (make (applied op m)) r → IsLow r → Answers tree (make t) r
answer_one t op a m r e arm h l = arm.answer r (subst (λ m. Answers tree (make (applied op m)) r) e h) l

pub answer_two : (t : Tree) (op : Op) (a b : Tree) (m : List Tree) (r : Result Term TermFault) → m ≡ a ∷ b ∷ [] → Arm t (two op a b) → Answers tree (make (applied op m)) r → IsLow r → Answers tree (make t) r
answer_two t op a b m r e arm h l = arm.answer r (subst (λ m. Answers tree (make (applied op m)) r) e h) l

pub call_inner : (t : Tree) (op : Op) (a b : Tree) (c : Bits) (m : List Tree) → m ≡ a ∷ b ∷ [] → PlusArm t op a b c → Call t op m
call_inner t op a b c m e arm = subst (Call t op) (sym e) (arm.less, (arm.typed, two_low a b arm.parts.0 arm.parts.1))

pub call_outer : (t : Tree) (op : Op) (a b : Tree) (c : Bits) (m n : List Tree) (s : Term) → m ≡ a ∷ b ∷ [] → n ≡ tree s ∷ lit c ∷ [] → PlusArm t op a b c
    → Answers tree (make (applied op m)) (Ok s) → height (tree s) ≤ HIGHEST → Call t Add n
call_outer t op a b c m n s e f arm h l =
    let k = subst (λ m. Answers tree (make (applied op m)) (Ok s)) e h in
    subst (Call t Add) (sym f) (arm.outer_less s k, (arm.outer_typed s k, two_low (tree s) (lit c) l lit_low))
  where
    lit_low : 1 ≤ HIGHEST
    lit_low = omega arith

pub answer_outer : (t : Tree) (op : Op) (a b : Tree) (c : Bits) (m n : List Tree) (s : Term) (r : Result Term TermFault) → m ≡ a ∷ b ∷ [] → n ≡ tree s ∷ lit c ∷ [] → PlusArm t op a b c
    → Answers tree (make (applied op m)) (Ok s) → Answers tree (make (applied Add n)) r → IsLow r → Answers tree (make t) r
answer_outer t op a b c m n s r e f arm h k l =
    arm.answer s r (subst (λ m. Answers tree (make (applied op m)) (Ok s)) e h) (subst (λ n. Answers tree (make (applied Add n)) r) f k) l

pub answer_fault : (t : Tree) (op : Op) (a b : Tree) (c : Bits) (m : List Tree) (f : TermFault) → m ≡ a ∷ b ∷ [] → PlusArm t op a b c
    → Answers tree (make (applied op m)) (Err f) → Answers tree (make t) (Err f)
answer_fault t op a b c m f e arm h = arm.fault f (subst (λ m. Answers tree (make (applied op m)) (Err f)) e h)

-- ---- what is made is a term with the value of the application

pub made_term : (t : Tree) (r : Result Term TermFault) → IsTyped t → Answers tree (make t) r → IsLow r → IfOk r (λ u. IsTerm (tree u))
made_term t (Ok u) h a l = record { typed = subst IsTyped (within_is (make t) (tree u) a).1 (make_typed t h); low = l }
made_term t (Err f) h a l = tt

pub made_value : (t : Tree) (r : Result Term TermFault) → IsTyped t → Answers tree (make t) r → IfOk r (λ u. (v : Values) → IsValues v → value v (tree u) ≡ value v t)
made_value t (Ok u) h a = λ v k. ap (value v) (sym (within_is (make t) (tree u) a).1) ∙ make_value v t k h
made_value t (Err f) h a = tt

-- ---- operators at terms

-- what is made of an application is as wide
pub made_width : (t : Tree) (r : Result Term TermFault) → IsTyped t → Answers tree (make t) r → IfOk r (λ u. width_of (tree u) ≡ width_of t)
made_width t (Ok u) h a = ap width_of (sym (within_is (make t) (tree u) a).1) ∙ make_width t h
made_width t (Err f) h a = tt
