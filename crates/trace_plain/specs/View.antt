-- The code's traces as plain data.
use Rattle.std.specs.Prelude.{List, [], ◌∷◌, map}
use Rattle.term_tree.specs.View.{tree}
use Rattle.trace_plain.specs.declared.trace.PlainEvent.{PlainEvent}
use Rattle.trace_plain.specs.declared.trace.PlainEvent.TheVariants as event
use Rattle.trace_plain.specs.declared.trace.PlainEnd.{PlainEnd}
use Rattle.trace_plain.specs.declared.trace.PlainTrace.{PlainTrace}
use Rattle.trace_plain.specs.declared.trace.PlainEnd.TheOpen.{PlainEnd-F, PlainTrace-F}
use Rattle.trace_plain.specs.declared.trace.PlainEnd.TheFolds.{fold-PlainEnd, fold-PlainTrace}
use Rattle.trace_plain.specs.Trace.{Event, read_reg, write_reg, read_mem, write_mem, assume, need, assume_reg, Trace, trace, End, done, fail, cases, Traces, none, some}

-- an event
abbrev pub event_of : PlainEvent → Event
event_of (event.ReadReg r var) = read_reg r var
event_of (event.WriteReg r t) = write_reg r (tree t)
event_of (event.ReadMem var at n) = read_mem var (tree at) n
event_of (event.WriteMem at t n) = write_mem (tree at) (tree t) n
event_of (event.Assume t) = assume (tree t)
event_of (event.Need t) = need (tree t)
event_of (event.AssumeReg r value) = assume_reg r value

-- traces in a row
abbrev pub traces : List Trace → Traces
traces [] = none
traces (t ∷ ts) = some t (traces ts)

-- an end whose children are plain
abbrev pub end_step : PlainEnd-F End Trace → End
end_step PlainEnd-F.Done = done
end_step (PlainEnd-F.Fail kind) = fail kind
end_step (PlainEnd-F.Cases children) = cases (traces children)

-- a trace whose end is plain
abbrev pub trace_step : PlainTrace-F End Trace → Trace
trace_step t = trace (map event_of t.events) t.end

-- an end
abbrev pub end_of : PlainEnd → End
end_of = fold-PlainEnd End Trace end_step trace_step

-- a trace
abbrev pub trace_of : PlainTrace → Trace
trace_of = fold-PlainTrace End Trace end_step trace_step
