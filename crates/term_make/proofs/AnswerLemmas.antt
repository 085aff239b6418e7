-- Answers of calls that make terms: one after the other, and of an application by its rule.
use Rattle.std.proofs.Common.{◌≡◌, ◌<◌, ◌≤◌, Bool, true, false, ◌||◌, cond, [], ◌∷◌, Some, None, Result, Ok, Err, IfOk, refl, ap, sym, ◌∙◌, subst, arith, nat_lt}
use Rattle.std.specs.List.{list_any}
use Rattle.std.proofs.lemmas.List.Folds.{list_any-append}
use Rattle.std.proofs.lemmas.Option.{same_Some}
use Rattle.std.proofs.lemmas.Bool.Decides.{nat_tests}
use Rattle.term_tree.specs.declared.term.TermFault.{TermFault}
use Rattle.term_tree.specs.declared.term.TermFault.TheVariants as fault
use Rattle.term_tree.specs.Terms.{Tree, ArrayTree, height, array_height, HIGHEST}
use Rattle.term_rules.specs.Rules.{Right, rule_of}
use Rattle.term_make.specs.Making.{Asked, Made, just, made_then, asks, build, make_by, make, is_high, goes_high, within_height}
use Rattle.term_make.specs.Answers.{Answers}
use Rattle.term_make.proofs.StepLemmas.{make_steps}

-- ---- what is within the height

-- a choice that gave something, and one that gave nothing
chosen : {A : Type 0} (b : Bool) (x y : A) → cond b None (Some x) ≡ Some y → (b ≡ false) × (x ≡ y)
chosen true x y h = absurd (cc)
chosen false x y h = (refl, same_Some x y h)

refused : {A : Type 0} (b : Bool) (x : A) → cond b None (Some x) ≡ None → b ≡ true
refused true x h = refl
refused false x h = absurd (cc)

-- what is made within the height is what is made, and nothing on the way is too high
pub within_is : {A : Type 0} (m : Made A) (x : A) → within_height m ≡ Some x → (goes_high m ≡ false) × (m.it ≡ x)
within_is m x h = chosen (goes_high m) m.it x h

pub not_within : {A : Type 0} (m : Made A) → within_height m ≡ None → goes_high m ≡ true
not_within m h = refused (goes_high m) m.it h

pub within : {A : Type 0} (m : Made A) (x : A) → goes_high m ≡ false → m.it ≡ x → within_height m ≡ Some x
within m x h e = ap (λ b. cond b None (Some m.it)) h ∙ ap Some e

pub outside : {A : Type 0} (m : Made A) → goes_high m ≡ true → within_height m ≡ None
outside m h = ap (λ b. cond b None (Some m.it)) h

-- ---- one after the other

or_swapped : (a b c d : Bool) → ((a || b) || (c || d)) ≡ ((a || c) || (b || d))
or_swapped true b c d = refl
or_swapped false true true d = refl
or_swapped false true false d = refl
or_swapped false false c d = refl

high_asked : Asked → Bool
high_asked a = is_high a.1

-- something on the way is too high, of the first or of the second
pub high_then : {A B : Type 0} (m : Made A) (f : A → Made B) → goes_high (made_then m f) ≡ (goes_high m || goes_high (f m.it))
high_then m f =
    let p : Asked → Bool = (λ a. is_high a.1) in
    let q : ArrayTree → Bool = (λ g. nat_lt HIGHEST (array_height g)) in
    rw (list_any-append p m.asked (f m.it).asked, list_any-append q m.stored (f m.it).stored)
    (or_swapped (list_any p m.asked) (list_any p (f m.it).asked) (list_any q m.stored) (list_any q (f m.it).stored))

pub then_within : {A B : Type 0} (m : Made A) (f : A → Made B) (x : A) (y : B) → within_height m ≡ Some x → within_height (f x) ≡ Some y → within_height (made_then m f) ≡ Some y
then_within m f x y h k =
    let first = within_is m x h in
    let second = within_is (f m.it) y (ap (λ x. within_height (f x)) first.1 ∙ k) in
    within (made_then m f) y (high_then m f ∙ rw (first.0, second.0) refl) second.1

pub then_first_outside : {A B : Type 0} (m : Made A) (f : A → Made B) → within_height m ≡ None → within_height (made_then m f) ≡ None
then_first_outside m f h = outside (made_then m f) (high_then m f ∙ rw (not_within m h) refl)

or_true : (b : Bool) → (b || true) ≡ true
or_true true = refl
or_true false = refl

pub then_second_outside : {A B : Type 0} (m : Made A) (f : A → Made B) (x : A) → within_height m ≡ Some x → within_height (f x) ≡ None → within_height (made_then m f) ≡ None
then_second_outside m f x h k =
    let first = within_is m x h in
    let second = not_within (f m.it) (ap (λ x. within_height (f x)) first.1 ∙ k) in
    outside (made_then m f) (high_then m f ∙ rw second (or_true (goes_high m)))

-- ---- answers

-- the second answer, after the first one
pub answers_then : {S T A B : Type 0} (v : S → A) (w : T → B) (m : Made A) (f : A → Made B) (s : S) (r : Result T TermFault)
    → Answers v m (Ok s) → Answers w (f (v s)) r → Answers w (made_then m f) r
answers_then v w m f s (Ok t) h k = then_within m f (v s) (w t) h k
answers_then v w m f s (Err fault.TermTooHigh) h k = then_second_outside m f (v s) h k
answers_then v w m f s (Err fault.TooManyTerms) h k = k
answers_then v w m f s (Err fault.NoMemory) h k = tt

-- the first fault
pub answers_fault : {S T A B : Type 0} (v : S → A) (w : T → B) (m : Made A) (f : A → Made B) (e : TermFault)
    → Answers v m (Err e) → Answers w (made_then m f) (Err e)
answers_fault v w m f fault.TermTooHigh h = then_first_outside m f h
answers_fault v w m f fault.TooManyTerms h = h
answers_fault v w m f fault.NoMemory h = tt

-- ---- an application that was asked for

or_known : (a b : Bool) → ((a || false) || b) ≡ (a || b)
or_known true b = refl
or_known false b = refl

not_high : (t : Tree) → height t ≤ HIGHEST → is_high t ≡ false
not_high t h = grind (arith, nat_tests)

-- what is asked for goes too high where making it does, or where its result is
pub high_asks : (t : Tree) (m : Made Tree) → goes_high (asks t m) ≡ ((list_any (λ a. is_high a.1) m.asked || (is_high m.it || false)) || list_any (λ f. nat_lt HIGHEST (array_height f)) m.stored)
high_asks t m =
    rw (list_any-append (λ (a : Asked). is_high a.1) m.asked ((t, m.it) ∷ [])) refl

pub answers_asks : {T : Type 0} (v : T → Tree) (t : Tree) (m : Made Tree) (r : Result T TermFault)
    → Answers v m r → IfOk r (λ u. height (v u) ≤ HIGHEST) → Answers v (asks t m) r
answers_asks v t m (Ok u) h low =
    let is = within_is m (v u) h in
    let none : is_high m.it ≡ false = ap is_high is.1 ∙ not_high (v u) low in
    within (asks t m) (v u) (high_asks t m ∙ rw none (or_known (list_any (λ (a : Asked). is_high a.1) m.asked) (list_any (λ (f : ArrayTree). nat_lt HIGHEST (array_height f)) m.stored) ∙ is.0)) is.1
answers_asks v t m (Err fault.TermTooHigh) h low =
    outside (asks t m) (high_asks t m ∙ still (list_any (λ (a : Asked). is_high a.1) m.asked) (is_high m.it || false) (list_any (λ (f : ArrayTree). nat_lt HIGHEST (array_height f)) m.stored) (not_within m h))
  where
    still : (a b c : Bool) → (a || c) ≡ true → ((a || b) || c) ≡ true
    still true b c h = refl
    still false true c h = refl
    still false false c h = h
answers_asks v t m (Err fault.TooManyTerms) h low = h
answers_asks v t m (Err fault.NoMemory) h low = tt

-- ---- an application by its rule

-- where a rule fits
pub answers_ruled : {T : Type 0} (v : T → Tree) (t : Tree) (s : Right) (r : Result T TermFault)
    → rule_of t ≡ Some s → Answers v (build make s) r → IfOk r (λ u. height (v u) ≤ HIGHEST) → Answers v (make t) r
answers_ruled v t s r e h low =
    subst (λ m. Answers v m r) (sym (make_steps t ∙ ap (make_by make t) e)) (answers_asks v t (build make s) r h low)

-- where none fits: the application itself, if it isn't too high
pub answers_plain : {T : Type 0} (v : T → Tree) (t : Tree) (r : Result T TermFault)
    → rule_of t ≡ None → Answers v (asks t (just t)) r → Answers v (make t) r
answers_plain v t r e h = subst (λ m. Answers v m r) (sym (make_steps t ∙ ap (make_by make t) e)) h

pub plain_within : (t : Tree) → height t ≤ HIGHEST → within_height (asks t (just t)) ≡ Some t
plain_within t h = within (asks t (just t)) t (rw (not_high t h) refl) refl

pub plain_outside : (t : Tree) → HIGHEST < height t → within_height (asks t (just t)) ≡ None
plain_outside t h =
    let high : is_high t ≡ true = grind (arith, nat_tests) in
    outside (asks t (just t)) (rw high refl)
