-- Definitions that answer the same with the same terms.
use Rattle.std.proofs.Common.{◌≡◌, List, ◌++◌, refl, sym, ◌∙◌, subst}
use Rattle.std.specs.Prelude.{Result, Ok, Err}
use Rattle.term_make.specs.Making.{Made, made_then}
use Rattle.term_arena.specs.Nodes.{Node, Meaning, Keeps}
use Rattle.term_arena.specs.Built.{built}
use Rattle.term_arena.specs.Said.{Answer, Answers, Refuses, Said, answer_then, said_then, said_of}
use Rattle.term_arena.specs.Makes.{AreLow, Cause, by_rule, too_high, too_many, no_memory, TellsCause, Tells, MakesWith, Covers}
use Rattle.term_arena.proofs.BuiltLemmas.{Within, within_left, within_right, within_both, within_join, adds_more, full_more, built_first, built_second, built_then}
use Rattle.term_arena.proofs.MakesLemmas.{high_more, low_both, low_less}

pub covers_itself : {R A : Type 0} (s : Said R A) → Covers s s
covers_itself s = record { same = refl; each = λ m c. c; low = λ l. l }

pub covers_is : {R A : Type 0} (s t : Said R A) → s ≡ t → Covers s t
covers_is {R} {A} s t e = subst (λ (u : Said R A). Covers s u) e (covers_itself s)

pub covers_trans : {R A : Type 0} (s t u : Said R A) → Covers s t → Covers t u → Covers s u
covers_trans s t u h k = record { same = h.same ∙ k.same; each = λ m c. k.each m (h.each m c); low = λ l. k.low (h.low l) }

within_of : {R A : Type 0} (s t : Said R A) → Covers s t → Within s.work t.work
within_of s t h = record { each = h.each }

-- ---- one after the other

covers_answer : {R A B : Type 0} (a : Answer R A) (v w : List Meaning) (f g : A → Said R B) → Within v w → (AreLow v → AreLow w) → ((x : A) → Covers (f x) (g x)) → Covers (answer_then a v f) (answer_then a w g)
covers_answer (Answers x) v w f g i l h = record {
  same = (h x).same;
  each = (within_both v (f x).work w (g x).work i (within_of (f x) (g x) (h x))).each;
  low = λ n.
      low_both w (g x).work (l (low_less v (v ++ (f x).work) (within_left v (f x).work) n)) ((h x).low (low_less (f x).work (v ++ (f x).work) (within_right v (f x).work) n));
}
covers_answer (Refuses why) v w f g i l h = record { same = refl; each = i.each; low = l }

pub covers_then : {R A B : Type 0} (s t : Said R A) (f g : A → Said R B) → Covers s t → ((x : A) → Covers (f x) (g x)) → Covers (said_then s f) (said_then t g)
unfolding said_then
covers_then {R} {A} s t f g h k =
    subst (λ (a : Answer R A). Covers (answer_then s.answer s.work f) (answer_then a t.work g)) h.same (covers_answer s.answer s.work t.work f g (within_of s t h) h.low k)

-- what is made one after the other
pub covers_made : {R A B : Type 0} (m : Made A) (f : A → Made B) → Covers {R = R} (said_then (said_of m) (λ x. said_of (f x))) (said_of (made_then m f))
unfolding said_then
covers_made m f = record {
  same = refl;
  each = (within_join (built m) (built (f m.it)) (built (made_then m f)) (built_first m f) (built_second m f)).each;
  low = low_less (built (made_then m f)) (built m ++ built (f m.it)) (built_then m f);
}

module _ {R A B C : Type 0} (m : Made A) (f : A → Made B) (g : A → B → Made C) where
  pub covers_two : Covers {R = R} (said_then (said_of m) (λ x. said_then (said_of (f x)) (λ y. said_of (g x y)))) (said_of (made_then m (λ x. made_then (f x) (g x))))
  covers_two =
      covers_trans (said_then (said_of m) (λ x. said_then (said_of (f x)) (λ y. said_of (g x y)))) (said_then (said_of m) (λ x. said_of (made_then (f x) (g x)))) (said_of (made_then m (λ x. made_then (f x) (g x))))
      (covers_then (said_of m) (said_of m) (λ x. said_then (said_of (f x)) (λ y. said_of (g x y))) (λ x. said_of (made_then (f x) (g x))) (covers_itself (said_of m)) (λ x. covers_made (f x) (g x)))
      (covers_made m (λ x. made_then (f x) (g x)))

module _ {R A B C D : Type 0} (m : Made A) (f : A → Made B) (g : A → B → Made C) (h : A → B → C → Made D) where
  pub covers_three : Covers {R = R} (said_then (said_of m) (λ x. said_then (said_of (f x)) (λ y. said_then (said_of (g x y)) (λ z. said_of (h x y z))))) (said_of (made_then m (λ x. made_then (f x) (λ y. made_then (g x y) (h x y)))))
  covers_three =
      covers_trans (said_then (said_of m) (λ x. said_then (said_of (f x)) (λ y. said_then (said_of (g x y)) (λ z. said_of (h x y z))))) (said_then (said_of m) (λ x. said_of (made_then (f x) (λ y. made_then (g x y) (h x y))))) (said_of (made_then m (λ x. made_then (f x) (λ y. made_then (g x y) (h x y)))))
      (covers_then (said_of m) (said_of m) (λ x. said_then (said_of (f x)) (λ y. said_then (said_of (g x y)) (λ z. said_of (h x y z)))) (λ x. said_of (made_then (f x) (λ y. made_then (g x y) (h x y)))) (covers_itself (said_of m)) (λ x. covers_two (f x) (g x) (h x)))
      (covers_made m (λ x. made_then (f x) (λ y. made_then (g x y) (h x y))))

-- ---- calls

cause_more : {R A : Type 0} (new : List Node) (y : Cause R) (s t : Said R A) → Covers s t → TellsCause new y s → TellsCause new y t
cause_more new (by_rule why) s t h e = (sym h.same ∙ e.0, h.low e.1)
cause_more new too_high s t h e = high_more s.work t.work (within_of s t h) e
cause_more new too_many s t h e = full_more new s.work t.work (within_of s t h) e
cause_more new no_memory s t h e = e

tells_more : {R E T A : Type 0} (why : E → Cause R) (new : List Node) (view : T → A) (r : Result T E) (s t : Said R A) → Covers s t → Tells why new view r s → Tells why new view r t
tells_more why new view (Ok x) s t h e = (sym h.same ∙ e.0, h.low e.1)
tells_more why new view (Err x) s t h e = cause_more new (why x) s t h e

-- what a call makes is what another definition makes
pub makes_more : {R E T A : Type 0} {why : List Node → E → Cause R} {old new : List Node} {view : List Node → T → A} {r : Result T E} {said other : List Node → Said R A} → MakesWith why old new view r said → ((last : List Node) → Keeps new last → Covers (said last) (other last)) → MakesWith why old new view r other
makes_more {why = why} {old = old} {new = new} {view = view} {r = r} {said = said} {other = other} m h = record {
  kept = m.kept;
  adds = λ last k. adds_more old new (said last).work (other last).work (within_of (said last) (other last) (h last k)) (m.adds last k);
  tells = λ last k. tells_more (why last) new (view last) r (said last) (other last) (h last k) (m.tells last k);
}
