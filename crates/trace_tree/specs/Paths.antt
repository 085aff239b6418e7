-- The traces inside a trace, each by the numbers of the children that lead to it.
use Rattle.std.specs.Prelude.{ℕ, zero, suc, List, [], ◌∷◌, Option, Some, None, option_and_then}
use Rattle.trace_plain.specs.Trace.{Trace, trace, done, fail, cases, Traces, none, some}

-- the child of this number, from 0 on
abbrev pub child : Traces → ℕ → Option Trace
child none i = None
child (some t ts) zero = Some t
child (some t ts) (suc i) = child ts i

-- the same of a trace; only `cases` has children
abbrev pub child_of : Trace → ℕ → Option Trace
child_of (trace events done) i = None
child_of (trace events (fail kind)) i = None
child_of (trace events (cases ts)) i = child ts i

-- the trace at the end of a path, and none where the path names a child that isn't there
abbrev pub at_path : Trace → List ℕ → Option Trace
at_path t [] = Some t
at_path t (i ∷ path) = option_and_then (λ u. at_path u path) (child_of t i)
