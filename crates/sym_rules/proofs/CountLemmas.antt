-- What is counted of a tree: its trace where there is room for all of it, and a refusal where there isn't.
use Rattle.std.proofs.Common.{◌≡◌, ◌≤◌, ◌<◌, ◌⊎◌, ◌∙◌, ℕ, zero, suc, ◌+◌, ◌-◌, List, [], ◌∷◌, ◌++◌, length, inl, inr, sym, ap, subst, refl, arith}
use Rattle.std.proofs.lemmas.Bool.{cases_lt}
use Rattle.bv_bits.specs.declared.Bits.{Bits}
use Rattle.sail_syntax.specs.Tree.{Text}
use Rattle.sail_syntax.specs.Program.{Definition}
use Rattle.term_arena.specs.Nodes.{Meaning}
use Rattle.term_arena.specs.Said.{Said, Answer, Answers, Refuses, says, said_just, answer_then, said_then, behind}
use Rattle.trace_plain.specs.Trace as plain
use Rattle.trace_plain.specs.Trace.{Event, Trace, trace, size}
use Rattle.sym_rules.specs.Trees.{SymTree, leaf, naming, on, split, fails, with_first, ends_so, two_cases, traced, TooLarge, too_large, Counted, one_more, counted}
use Rattle.sym_rules.specs.Sym.{sym_of, trace_of, traced_call}
use Rattle.sym_rules.specs.Laws.{AnswersTheTrace, RefusesTheRest}
use Rattle.sym_rules.specs.declared.limits.TheConstants.{EVENT_LIMIT}

-- ---- one answer and then another

then_answers : {R A B : Type 0} (s : Said R A) (f : A → Said R B) (x : A) → s.answer ≡ Answers x → (said_then s f).answer ≡ (f x).answer
unfolding said_then
then_answers s f x h = ap (λ a. (answer_then a s.work f).answer) h

then_refuses : {R A B : Type 0} (s : Said R A) (f : A → Said R B) (y : R) → s.answer ≡ Refuses y → (said_then s f).answer ≡ Refuses y
unfolding said_then
then_refuses s f y h = ap (λ a. (answer_then a s.work f).answer) h

-- ---- sizes

first_size : (e : Event) (t : Trace) → size (with_first e t) ≡ suc (size t)
first_size e (trace events end) = omega (arith)

cases_size : (a b : Trace) → size (two_cases a b) ≡ suc (size a + size b)
cases_size a b = omega (arith)

-- ---- with room

answers : {L : Type 0} (t : SymTree L) (room : ℕ) → size (traced t) ≤ room → (counted t room).answer ≡ Answers (traced t, room - size (traced t))
answers (leaf l) zero h = absurd (omega (arith, h))
answers {L} (leaf l) (suc room) h = ap (λ n. let c : Trace × ℕ = (ends_so plain.done, n) in let a : Answer TooLarge (Trace × ℕ) = Answers c in a) (omega (arith))
answers (naming ms t) room h = answers t room h
answers (on e t) zero h = absurd (omega (arith, h, first_size e (traced t)))
answers (on e t) (suc room) h =
    then_answers (counted t room) _ (traced t, room - size (traced t)) (answers t room (omega (arith, h, first_size e (traced t))))
    ∙ ap (λ n. let c : Trace × ℕ = (with_first e (traced t), n) in let a : Answer TooLarge (Trace × ℕ) = Answers c in a) (omega (arith, h, first_size e (traced t)))
answers (split a b) zero h = absurd (omega (arith, h, cases_size (traced a) (traced b)))
answers (split a b) (suc room) h =
    then_answers (counted a room) _ (traced a, room - size (traced a)) (answers a room (omega (arith, h, cases_size (traced a) (traced b))))
    ∙ (then_answers (counted b (room - size (traced a))) _ (traced b, room - size (traced a) - size (traced b)) (answers b (room - size (traced a)) (omega (arith, h, cases_size (traced a) (traced b))))
    ∙ ap (λ n. let c : Trace × ℕ = (two_cases (traced a) (traced b), n) in let a : Answer TooLarge (Trace × ℕ) = Answers c in a) (omega (arith, h, cases_size (traced a) (traced b))))
answers (fails k) zero h = absurd (omega (arith, h))
answers {L} (fails k) (suc room) h = ap (λ n. let c : Trace × ℕ = (ends_so (plain.fail k), n) in let a : Answer TooLarge (Trace × ℕ) = Answers c in a) (omega (arith))

-- ---- without room

-- both traces as one
paired : Trace × ℕ → Trace × ℕ → Counted
paired c d = said_just (two_cases c.0 d.0, d.1)

-- the second part is refused, where the first one leaves too little
refuses_rest : {L : Type 0} (a b : SymTree L) (room : ℕ) → ((n : ℕ) → n < size (traced b) → (counted b n).answer ≡ Refuses too_large)
    → size (traced a) ≤ room → room < size (traced a) + size (traced b)
    → (said_then (counted a room) (λ c. said_then (counted b c.1) (paired c))).answer ≡ Refuses too_large
refuses_rest a b room more h k =
    then_answers (counted a room) _ (traced a, room - size (traced a)) (answers a room h)
    ∙ then_refuses (counted b (room - size (traced a))) _ too_large (more (room - size (traced a)) (omega (arith, h, k)))

refuses_split : {L : Type 0} (a b : SymTree L) (room : ℕ) → ((n : ℕ) → n < size (traced a) → (counted a n).answer ≡ Refuses too_large)
    → ((n : ℕ) → n < size (traced b) → (counted b n).answer ≡ Refuses too_large) → room < size (traced a) + size (traced b)
    → (room < size (traced a)) ⊎ (size (traced a) ≤ room) → (counted (split a b) (suc room)).answer ≡ Refuses too_large
unfolding paired
refuses_split a b room first second h (inl k) = then_refuses (counted a room) _ too_large (first room k)
refuses_split a b room first second h (inr k) = refuses_rest a b room second k h

refuses : {L : Type 0} (t : SymTree L) (room : ℕ) → room < size (traced t) → (counted t room).answer ≡ Refuses too_large
refuses (leaf l) zero h = refl
refuses (leaf l) (suc room) h = absurd (omega (arith, h))
refuses (naming ms t) room h = refuses t room h
refuses (on e t) zero h = refl
refuses (on e t) (suc room) h = then_refuses (counted t room) _ too_large (refuses t room (omega (arith, h, first_size e (traced t))))
refuses (split a b) zero h = refl
refuses (split a b) (suc room) h =
    refuses_split a b room (refuses a) (refuses b) (omega (arith, h, cases_size (traced a) (traced b))) (cases_lt room (size (traced a)))
refuses (fails k) zero h = refl
refuses (fails k) (suc room) h = absurd (omega (arith, h))

-- ---- of a call

pub answers_the_trace : AnswersTheTrace
answers_the_trace defs given f b h = then_answers (counted (sym_of defs given f b) EVENT_LIMIT) _ _ (answers (sym_of defs given f b) EVENT_LIMIT h)

pub refuses_the_rest : RefusesTheRest
refuses_the_rest defs given f b h = then_refuses (counted (sym_of defs given f b) EVENT_LIMIT) _ too_large (refuses (sym_of defs given f b) EVENT_LIMIT h)
