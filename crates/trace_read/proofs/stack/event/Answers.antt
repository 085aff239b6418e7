use Rattle.trace_plain.specs.View.{event_of}
use Rattle.std.proofs.Common.{map}
use Rattle.trace_read.proofs.CloseLemmas.{more_events, scope_kept}
use Rattle.trace_read.proofs.LeadLemmas.{event_leads}
use Rattle.trace_read.proofs.stack.event.Goals as goal

pub returns-clause-turn : goal.returns-clause-turn
returns-clause-turn c =
    λ os nest.
    event_leads c.args.registers.now c.args.scope.now c.bind_event.new.scope os (map event_of c.args.events) (event_of c.args.event) c.push.new.self nest c.in_ok-bind_event.ensures.bound
    (scope_kept c.args.registers.now c.args.scope.now c.bind_event.new.scope (event_of c.args.event) c.in_ok-bind_event.ensures.bound)
    (more_events c.args.events c.push.new.self c.args.event c.in_ok-push.ensures.ok)
