-- One step of a definition after the other, and what the code has made so far.
use Rattle.std.proofs.Common.{◌≡◌, ◌≤◌, List, [], ◌∷◌, ◌++◌, inl, inr, refl, ap, sym, ◌∙◌, subst, arith, append_assoc}
use Rattle.std.specs.Prelude.{Result, Ok, Err, OnOk}
use Rattle.std.proofs.lemmas.List.Elements.{Contains-append_cases, Contains-push_cases}
use Rattle.term_tree.specs.Terms.{HIGHEST}
use Rattle.term_arena.specs.Nodes.{Node, Meaning, Keeps}
use Rattle.term_arena.specs.Arena.{height_in}
use Rattle.term_arena.specs.Built.{AddsOnly}
use Rattle.term_arena.specs.Said.{Answer, Answers, Refuses, Said, said_just, behind, answer_then, said_then}
use Rattle.term_arena.specs.Makes.{IsHigh, AreLow, Cause, by_rule, too_high, too_many, no_memory, TellsCause, Tells, MakesWith, Reaches}
use Rattle.term_arena.proofs.MeaningLemmas.{keeps_itself, keeps_trans}
use Rattle.term_arena.proofs.BuiltLemmas.{Within, within_itself, within_left, within_right, adds_more, adds_then, adds_nothing, full_more}

-- ---- high and low

pub high_more : (xs ys : List Meaning) → Within xs ys → IsHigh xs → IsHigh ys
high_more xs ys w h = record { high = h.high; wants = w.each h.high h.wants; above = h.above }

pub low_none : AreLow []
low_none = record { each = λ m c. absurd (let lt = c.1 in omega (arith, lt)) }

pub low_one : (x : Meaning) → height_in x ≤ HIGHEST → AreLow (x ∷ [])
low_one x h = record {
  each = λ m c.
      elim (Contains-push_cases [] x m c) [
        | inl n ↦ absurd (let lt = n.1 in omega (arith, lt))
        | inr e ↦ subst (λ (y : Meaning). height_in y ≤ HIGHEST) e h
      ];
}

pub low_both : (xs ys : List Meaning) → AreLow xs → AreLow ys → AreLow (xs ++ ys)
low_both xs ys h k = record { each = λ m c. elim (Contains-append_cases xs ys m c) [ inl a ↦ h.each m a | inr b ↦ k.each m b ] }

pub low_less : (xs ys : List Meaning) → Within xs ys → AreLow ys → AreLow xs
low_less xs ys w h = record { each = λ m c. h.each m (w.each m c) }

pub not_high : (xs : List Meaning) → AreLow xs → IsHigh xs → ⊥
not_high xs l h = let a = l.each h.high h.wants in let b = h.above in omega (arith, a, b)

-- ---- what is told of more terms

module _ {R A : Type 0} (new : List Node) (done : List Meaning) (low : AreLow done) where
  cause_behind : (y : Cause R) (s : Said R A) → TellsCause new y s → TellsCause new y (behind done s)
  cause_behind (by_rule why) s h = (h.0, low_both done s.work low h.1)
  cause_behind too_high s h = high_more s.work (done ++ s.work) (within_right done s.work) h
  cause_behind too_many s h = full_more new s.work (done ++ s.work) (within_right done s.work) h
  cause_behind no_memory s h = h

  tells_behind : {E T : Type 0} (why : E → Cause R) (view : T → A) (r : Result T E) (s : Said R A) → Tells why new view r s → Tells why new view r (behind done s)
  tells_behind why view (Ok x) s h = (h.0, low_both done s.work low h.1)
  tells_behind why view (Err e) s h = cause_behind (why e) s h

-- the terms of the first step are terms of the whole
first_of : {R A B : Type 0} (a : Answer R A) (work : List Meaning) (f : A → Said R B) → Within work (answer_then a work f).work
first_of (Answers x) work f = within_left work (f x).work
first_of (Refuses w) work f = within_itself work

pub first_within : {R A B : Type 0} (s : Said R A) (f : A → Said R B) → Within s.work (said_then s f).work
unfolding said_then
first_within s f = first_of s.answer s.work f

-- a refusal of the first step is one of the whole
cause_stop : {R A B : Type 0} (new : List Node) (y : Cause R) (s : Said R A) (f : A → Said R B) → TellsCause new y s → TellsCause new y (said_then s f)
unfolding said_then
cause_stop {R} {A} {B} new (by_rule why) s f h =
    (ap (λ (a : Answer R A). (answer_then a s.work f).answer) h.0, subst (λ (a : Answer R A). AreLow (answer_then a s.work f).work) (sym h.0) h.1)
cause_stop new too_high s f h = high_more s.work (said_then s f).work (first_within s f) h
cause_stop new too_many s f h = full_more new s.work (said_then s f).work (first_within s f) h
cause_stop new no_memory s f h = h

-- ---- what is done so far

-- nothing is done
pub reaches_start : {R A : Type 0} {nodes : List Node} {whole : List Node → Said R A} → Reaches nodes nodes whole whole
reaches_start {nodes = nodes} = record {
  kept = keeps_itself nodes;
  done = λ last. [];
  adds = λ last k. adds_nothing nodes nodes [] refl;
  low = λ last k. low_none;
  same = λ last k. refl;
}

-- the definition is another one, in which something is known
pub reaches_as : {R A : Type 0} {old new : List Node} {whole rest more : List Node → Said R A} → Reaches old new whole rest → ((last : List Node) → Keeps new last → rest last ≡ more last) → Reaches old new whole more
reaches_as h e = record {
  kept = h.kept;
  done = h.done;
  adds = h.adds;
  low = h.low;
  same = λ last k. h.same last k ∙ ap (behind (h.done last)) (e last k);
}

then_ok : {R A B : Type 0} (s : Said R A) (f : A → Said R B) (x : A) → s.answer ≡ Answers x → said_then s f ≡ behind s.work (f x)
unfolding said_then
then_ok {R} {A} s f x h = ap (λ (a : Answer R A). answer_then a s.work f) h

behind_twice : {R A : Type 0} (xs ys : List Meaning) (s : Said R A) → behind xs (behind ys s) ≡ behind (xs ++ ys) s
behind_twice {R} {A} xs ys s = ap (λ (w : List Meaning). let t : Said R A = record { answer = s.answer; work = w } in t) (sym (append_assoc xs ys s.work))

-- a call made the first step of what is left
pub reaches_step : {R E T A B : Type 0} {why : List Node → E → Cause R} {old mid new : List Node} {whole : List Node → Said R B} {view : List Node → T → A} {x : T} {first : List Node → Said R A} (next : List Node → A → Said R B)
    → Reaches old mid whole (λ last. said_then (first last) (next last)) → MakesWith why mid new view (Ok x) first → Reaches old new whole (λ last. next last (view last x))
reaches_step {old = old} {mid = mid} {new = new} {view = view} {x = x} {first = first} next h m = record {
  kept = keeps_trans old mid new h.kept m.kept;
  done = λ last. h.done last ++ (first last).work;
  adds = λ last k.
      adds_then old mid new (h.done last) (first last).work (h.done last ++ (first last).work) m.kept
      (within_left (h.done last) (first last).work) (within_right (h.done last) (first last).work)
      (h.adds last (keeps_trans mid new last m.kept k)) (m.adds last k);
  low = λ last k. low_both (h.done last) (first last).work (h.low last (keeps_trans mid new last m.kept k)) (m.tells last k).1;
  same = λ last k.
      h.same last (keeps_trans mid new last m.kept k)
      ∙ ap (behind (h.done last)) (then_ok (first last) (next last) (view last x) (m.tells last k).0)
      ∙ behind_twice (h.done last) (first last).work (next last (view last x));
}

-- a call made all that was left, or was refused
pub reaches_end : {R E T A : Type 0} {why : List Node → E → Cause R} {old mid new : List Node} {whole rest : List Node → Said R A} {view : List Node → T → A} {r : Result T E} → Reaches old mid whole rest → MakesWith why mid new view r rest → MakesWith why old new view r whole
reaches_end {R} {E} {T} {A} {why} {old} {mid} {new} {whole} {rest} {view} {r} h m = record {
  kept = keeps_trans old mid new h.kept m.kept;
  adds = λ last k.
      let before = keeps_trans mid new last m.kept k in
      let P : Said R A → Type 0 = λ s. AddsOnly old new s.work in
      subst P (sym (h.same last before))
      (adds_then old mid new (h.done last) (rest last).work (h.done last ++ (rest last).work) m.kept
      (within_left (h.done last) (rest last).work) (within_right (h.done last) (rest last).work)
      (h.adds last before) (m.adds last k));
  tells = λ last k.
      let before = keeps_trans mid new last m.kept k in
      let P : Said R A → Type 0 = λ s. Tells (why last) new (view last) r s in
      subst P (sym (h.same last before)) (tells_behind new (h.done last) (h.low last before) (why last) (view last) r (rest last) (m.tells last k));
}

-- a call was refused at the first step
pub makes_stop : {R E T U A B : Type 0} {why : List Node → E → Cause R} {old new : List Node} {view : List Node → T → A} {show : List Node → U → B} {e : E} {first : List Node → Said R A} (next : List Node → A → Said R B)
    → MakesWith why old new view (Err e) first → MakesWith why old new show (Err e) (λ last. said_then (first last) (next last))
makes_stop {why = why} {old = old} {new = new} {e = e} {first = first} next m = record {
  kept = m.kept;
  adds = λ last k. adds_more old new (first last).work (said_then (first last) (next last)).work (first_within (first last) (next last)) (m.adds last k);
  tells = λ last k. cause_stop new (why last e) (first last) (next last) (m.tells last k);
}

-- the same at the first step of what was left
pub reaches_stop : {R E T U A B : Type 0} {why : List Node → E → Cause R} {old mid new : List Node} {whole : List Node → Said R B} {view : List Node → T → A} {show : List Node → U → B} {e : E} {first : List Node → Said R A} (next : List Node → A → Said R B)
    → Reaches old mid whole (λ last. said_then (first last) (next last)) → MakesWith why mid new view (Err e) first → MakesWith why old new show (Err e) whole
reaches_stop next h m = reaches_end h (makes_stop next m)

-- ---- no terms are added

pub makes_here : {R E T A : Type 0} {why : List Node → E → Cause R} (nodes : List Node) (view : List Node → T → A) (r : Result T E) (said : List Node → Said R A) → ((last : List Node) → Keeps nodes last → Tells (why last) nodes (view last) r (said last)) → MakesWith why nodes nodes view r said
makes_here nodes view r said h = record {
  kept = keeps_itself nodes;
  adds = λ last k. adds_nothing nodes nodes (said last).work refl;
  tells = h;
}

-- all is done
pub reaches_done : {R E T A : Type 0} {why : List Node → E → Cause R} {old new : List Node} {whole : List Node → Said R A} {view : List Node → T → A} {x : T} → Reaches old new whole (λ last. said_just (view last x)) → MakesWith why old new view (Ok x) whole
reaches_done {new = new} h =
    reaches_end h (record { kept = keeps_itself new; adds = λ last k. adds_nothing new new [] refl; tells = λ last k. (refl, low_none) })

-- there was no memory for what is left
pub reaches_none : {R E T A : Type 0} {why : List Node → E → Cause R} {old new : List Node} {whole rest : List Node → Said R A} {view : List Node → T → A} {e : E} → ((last : List Node) → why last e ≡ no_memory) → Reaches old new whole rest → MakesWith why old new view (Err e) whole
reaches_none {why = why} {new = new} {rest = rest} {e = e} w h =
    reaches_end h (record {
      kept = keeps_itself new;
      adds = λ last k. adds_nothing new new (rest last).work refl;
      tells = λ last k. subst (λ y. TellsCause new y (rest last)) (sym (w last)) tt;
    })

-- the definition is another one, in which something is known
pub makes_as : {R E T A : Type 0} {why : List Node → E → Cause R} {old new : List Node} {view : List Node → T → A} {r : Result T E} {said other : List Node → Said R A} → MakesWith why old new view r said → ((last : List Node) → Keeps new last → said last ≡ other last) → MakesWith why old new view r other
makes_as {R} {E} {T} {A} {why} {old} {new} {view} {r} m e = record {
  kept = m.kept;
  adds = λ last k. let P : Said R A → Type 0 = λ s. AddsOnly old new s.work in subst P (e last k) (m.adds last k);
  tells = λ last k. let P : Said R A → Type 0 = λ s. Tells (why last) new (view last) r s in subst P (e last k) (m.tells last k);
}

-- a fault by another name
pub makes_fault : {R E F T U A : Type 0} {why : List Node → E → Cause R} {old new : List Node} {view : List Node → T → A} {said : List Node → Said R A} {e : E} (also : List Node → F → Cause R) (show : List Node → U → A) (f : F)
    → MakesWith why old new view (Err e) said → ((last : List Node) → why last e ≡ also last f) → MakesWith also old new show (Err f) said
makes_fault {R} {A = A} {old = old} {new = new} {said = said} also show f m w = record {
  kept = m.kept;
  adds = m.adds;
  tells = λ last k. subst (λ (y : Cause R). TellsCause new y (said last)) (w last) (m.tells last k);
}

-- there was no memory to keep what was made
pub makes_none : {R E T A : Type 0} {why : List Node → E → Cause R} {old new : List Node} {view : List Node → T → A} {r : Result T E} {said : List Node → Said R A} (e : E) → ((last : List Node) → why last e ≡ no_memory) → MakesWith why old new view r said → MakesWith why old new view (Err e) said
makes_none {R} {A = A} {new = new} {said = said} e w m = record {
  kept = m.kept;
  adds = m.adds;
  tells = λ last k. subst (λ (y : Cause R). TellsCause new y (said last)) (sym (w last)) tt;
}

-- what holds anyhow
pub on_any : {T E : Type 0} (r : Result T E) (P : Type 0) → P → OnOk r P
on_any (Ok x) P h = h
on_any (Err e) P h = tt
