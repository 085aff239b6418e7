use Rattle.std.proofs.Common.{◌≡◌, ◌+◌, ◌∙◌, map, drop, sym, ap, subst, arith}
use Rattle.std.proofs.lemmas.List.{drop_all}
use Rattle.device_spec.specs.Devices.{IsTransition, next_by}
use Rattle.device_spec.specs.View.{transition_of}
use Rattle.device_spec.proofs.NextLemmas.{at_item, by_found, by_more, by_none}
use Rattle.device_spec.proofs.event.next_by.Goals as goal

pub takes-requires-clause-transition : goal.takes-requires-clause-transition
takes-requires-clause-transition c =
    subst (λ t. IsTransition (transition_of t)) (sym c.transition-item.is)
    (c.requires.transitions c.loop-transition.transition-index c.transition-item.result (omega (arith, c.loop-transition-test.true)))

pub loop-transition-preserved : goal.loop-transition-preserved
loop-transition-preserved c =
    let at = at_item c.args.transitions.now c.loop-transition.transition-index c.transition-item.result (omega (arith, c.loop-transition-test.true)) c.transition-item.is in
    sym (by_more c.args.q c.args.event.now (transition_of c.transition-item.result) (map transition_of (drop (c.loop-transition.transition-index + 1) c.args.transitions.now)) (sym c.takes.ensures ∙ c.if-takes.false))
    ∙ ap (λ ts. next_by ts c.args.q c.args.event.now) (sym at) ∙ c.loop-transition.invariant

pub returns-then-takes : goal.returns-then-takes
returns-then-takes c =
    let at = at_item c.args.transitions.now c.loop-transition.transition-index c.transition-item.result (omega (arith, c.loop-transition-test.true)) c.transition-item.is in
    sym (by_found c.args.q c.args.event.now (transition_of c.transition-item.result) (map transition_of (drop (c.loop-transition.transition-index + 1) c.args.transitions.now)) (sym c.takes.ensures ∙ c.if-takes.true))
    ∙ ap (λ ts. next_by ts c.args.q c.args.event.now) (sym at) ∙ c.loop-transition.invariant

pub returns : goal.returns
returns c =
    sym (by_none c.args.q c.args.event.now)
    ∙ ap (λ ts. next_by (map transition_of ts) c.args.q c.args.event.now) (sym (drop_all c.loop-transition.transition-index c.args.transitions.now (omega (arith, c.loop-transition-test.false))))
    ∙ c.loop-transition.invariant
