use Rattle.std.proofs.Common.{map}
use Rattle.trace_plain.specs.View.{event_of}
use Rattle.trace_read.specs.Gathering.{opens_of}
use Rattle.trace_read.specs.Readers.{left}
use Rattle.trace_read.proofs.LoopLemmas.{Reaches}
use Rattle.trace_read.proofs.reading.among.Given as goal

-- what is left leads to the whole answer
abbrev pub invariant-loop : goal.invariant-loop
invariant-loop l = Reaches l.registers l.counter l.scope (opens_of l.stack) (map event_of l.events) (left l.behind) (left l.fn.rest)
