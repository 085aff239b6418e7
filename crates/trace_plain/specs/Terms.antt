-- What holds of the terms of a trace.
use Rattle.std.specs.Prelude.{⊤, List, [], ◌∷◌}
use Rattle.term_tree.specs.Terms.{Tree}
use Rattle.trace_plain.specs.Trace.{Event, read_reg, write_reg, read_mem, write_mem, assume, need, assume_reg, Trace, trace, End, done, fail, cases, Traces, none, some}

-- what holds of a term
module _ (P : Tree → Type 0) where
  -- an event of whose terms it holds
  abbrev pub OfEvent : Event → Type 0
  OfEvent (read_reg r var) = ⊤
  OfEvent (write_reg r t) = P t
  OfEvent (read_mem var at n) = P at
  OfEvent (write_mem at t n) = P at × P t
  OfEvent (assume t) = P t
  OfEvent (need t) = P t
  OfEvent (assume_reg r value) = ⊤

  -- events of whose terms it holds
  abbrev pub OfEvents : List Event → Type 0
  OfEvents [] = ⊤
  OfEvents (e ∷ es) = OfEvent e × OfEvents es

  -- a trace, an end and traces in a row of whose terms it holds
  abbrev mutual
    pub OfTrace : Trace → Type 0
    OfTrace (trace events end) = OfEvents events × OfEnd end

    pub OfEnd : End → Type 0
    OfEnd done = ⊤
    OfEnd (fail kind) = ⊤
    OfEnd (cases ts) = OfTraces ts

    pub OfTraces : Traces → Type 0
    OfTraces none = ⊤
    OfTraces (some t ts) = OfTrace t × OfTraces ts
