use Rattle.std.proofs.Common.{◌≡◌, ◌++◌, map, drop, length}
use Rattle.trace_plain.specs.Printable.{ArePrintableEvents}
use Rattle.trace_plain.specs.View.{event_of}
use Rattle.trace_print.specs.Printing.{events_text}
use Rattle.trace_print.proofs.events.put_events.Given as goal

-- what is written, and the text of what is left, are the whole; what is left has a text
abbrev pub invariant-loop-event : goal.invariant-loop-event
invariant-loop-event l =
    (l.out.items ++ events_text l.registers (map event_of (drop l.event-index l.events)) ≡ l.fn.out.items ++ events_text l.registers (map event_of l.events))
    × ArePrintableEvents (length l.registers) (map event_of (drop l.event-index l.events))
