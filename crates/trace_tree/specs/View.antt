-- Traces in an arena as plain data, over a list of nodes that says what the numbers of terms stand for.
use Rattle.std.specs.Prelude.{List, map}
use Rattle.term_arena.specs.Nodes.{Node}
use Rattle.term_arena.specs.Answers.{id_term}
use Rattle.trace_plain.specs.Trace as plain
use Rattle.trace_tree.specs.declared.trace.Event.{Event}
use Rattle.trace_tree.specs.declared.trace.Event.TheVariants as event
use Rattle.trace_tree.specs.declared.trace.Trace.{Trace}
use Rattle.trace_tree.specs.declared.trace.End.{End, Done, Fail, Cases', Row_of-Trace, end_of-Trace, more_of-Trace}

-- an event
abbrev pub event_in : List Node → Event → plain.Event
event_in nodes (event.ReadReg r var) = plain.read_reg r var
event_in nodes (event.WriteReg r t) = plain.write_reg r (id_term nodes t)
event_in nodes (event.ReadMem var at n) = plain.read_mem var (id_term nodes at) n
event_in nodes (event.WriteMem at t n) = plain.write_mem (id_term nodes at) (id_term nodes t) n
event_in nodes (event.Assume t) = plain.assume (id_term nodes t)
event_in nodes (event.Need t) = plain.need (id_term nodes t)
event_in nodes (event.AssumeReg r value) = plain.assume_reg r value

-- an end, and the traces of a slice
abbrev mutual
  pub end_in : List Node → End → plain.End
  end_in nodes Done = plain.done
  end_in nodes (Fail kind) = plain.fail kind
  end_in nodes (Cases' p shape row) = plain.cases (row_in nodes row)

  pub row_in : List Node → {m : _} → Row_of-Trace m → plain.Traces
  row_in nodes end_of-Trace = plain.none
  row_in nodes (more_of-Trace events end rest) = plain.some (plain.trace (map (event_in nodes) events.now) (end_in nodes end)) (row_in nodes rest)

-- a trace
abbrev pub plain_in : List Node → Trace → plain.Trace
plain_in nodes t = plain.trace (map (event_in nodes) t.events.now) (end_in nodes t.end)
