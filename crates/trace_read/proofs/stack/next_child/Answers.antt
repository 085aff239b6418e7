use Rattle.std.proofs.Common.{◌-◌, ◌∷◌, List, ap, ◌∙◌, map, arith}
use Rattle.trace_plain.specs.Trace.{Trace}
use Rattle.trace_plain.specs.View.{event_of, trace_of}
use Rattle.trace_read.specs.Gathering.{Open, open_view, opens_of}
use Rattle.trace_read.proofs.CloseLemmas.{more_traces}
use Rattle.trace_read.proofs.LeadLemmas.{next_closes}
use Rattle.trace_read.proofs.stack.next_child.Goals as goal

pub returns-clause-turn : goal.returns-clause-turn
returns-clause-turn c =
    next_closes c.args.scope.now c.cut_back.new.scope (open_view c.args.outer) (opens_of c.args.stack.now) (opens_of c.push-2.new.stack) (trace_of c.args.child) (c.args.outer.later - 1) c.new.result
    c.requires.nest (omega arith) c.cut_back.ensures.left
    (c.in_ok-push-2.ensures
    ∙ ap (λ (cs : List Trace). record { events = map event_of c.args.outer.events; children = cs; later = c.args.outer.later - 1; bound = c.args.outer.bound } ∷ opens_of c.args.stack.now)
    (more_traces c.args.outer.children c.push.new.self c.args.child c.in_ok-push.ensures.ok))
    c.new.ensures
