-- What a call that makes terms promises is what a step promises.
use Rattle.std.proofs.Common.{◌≡◌, List, ap, refl}
use Rattle.std.specs.Prelude.{Result, Ok, Err}
use Rattle.term_tree.specs.declared.term.TermFault.{TermFault}
use Rattle.term_tree.specs.declared.term.TermFault.TheVariants as term_fault
use Rattle.term_arena.specs.Nodes.{Node, Meaning, Keeps}
use Rattle.term_arena.specs.Said.{Answer, Answers, Said}
use Rattle.term_arena.specs.Makes.{term_cause, TellsCause, Tells, MakesWith, Makes}
use Rattle.term_arena.proofs.AnswerLemmas.{answer_is}
use Rattle.trace_plain.specs.declared.trace.FailKind.{FailKind}
use Rattle.sym_parts.specs.declared.faults.StepFault.{StepFault}
use Rattle.sym_parts.specs.declared.faults.StepFault.TheVariants as fault
use Rattle.sym_parts.specs.Causes.{step_cause}

-- an answer with these terms, whatever refuses
abbrev pub given_so : {R A : Type 0} → A → List Meaning → Said R A
given_so x work = record { answer = Answers x; work = work }

pub lift_ok : {T A : Type 0} {old new : List Node} {view : List Node → T → A} {x : T} (it : List Node → A) (work : List Node → List Meaning)
    → Makes old new view (Ok x) (λ last. given_so (it last) (work last)) → MakesWith step_cause old new view (Ok x) (λ last. given_so (it last) (work last))
lift_ok {T} {A} {old} {new} {view} {x} it work m = record {
  kept = m.kept;
  adds = m.adds;
  tells = λ last k. let t = m.tells last k in (ap (λ (y : A). let a : Answer FailKind A = Answers y in a) (answer_is (it last) (view last x) t.0), t.1);
}

told_cause : {A : Type 0} (last new : List Node) (f : TermFault) (x : A) (work : List Meaning)
    → TellsCause {R = ⊥} new (term_cause last f) (given_so x work) → TellsCause {R = FailKind} new (step_cause last (fault.Terms f)) (given_so x work)
told_cause last new term_fault.TermTooHigh x work h = h
told_cause last new term_fault.TooManyTerms x work h = h
told_cause last new term_fault.NoMemory x work h = h

pub lift_err : {T U A : Type 0} {old new : List Node} {view : List Node → T → A} {show : List Node → U → A} {f : TermFault} (it : List Node → A) (work : List Node → List Meaning)
    → Makes old new view (Err f) (λ last. given_so (it last) (work last)) → MakesWith step_cause old new show (Err (fault.Terms f)) (λ last. given_so (it last) (work last))
lift_err {old = old} {new = new} {f = f} it work m = record {
  kept = m.kept;
  adds = m.adds;
  tells = λ last k. told_cause last new f (it last) (work last) (m.tells last k);
}
