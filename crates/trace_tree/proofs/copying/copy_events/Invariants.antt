use Rattle.std.proofs.Common.{◌≡◌, ◌++◌, map, drop}
use Rattle.term_tree.specs.Terms.{IsTyped}
use Rattle.trace_plain.specs.Terms.{OfEvents}
use Rattle.trace_plain.specs.View.{event_of}
use Rattle.trace_tree.specs.View.{event_in}
use Rattle.trace_tree.proofs.copying.copy_events.Given as goal

-- what is copied and what is left are the whole; what is left has typed terms
abbrev pub invariant-loop-event : goal.invariant-loop-event
invariant-loop-event l =
    (map event_of l.copy ++ map (event_in l.terms) (drop l.event-index l.events) ≡ map (event_in l.terms) l.events)
    × OfEvents IsTyped (map (event_in l.terms) (drop l.event-index l.events))
