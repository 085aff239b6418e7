-- The text of a trace: a line for each event and each end, where the children of an end follow it one after the other.
use Rattle.std.specs.Prelude.{ℕ, List, [], ◌∷◌, ◌++◌, slice_index_or, codes}
use Rattle.std.specs.Fmt.{decimal}
use Rattle.bv_bits.specs.declared.Bits.{Bits}
use Rattle.lex_core.specs.declared.name.RegDecl.{RegDecl}
use Rattle.bit_text.specs.Texts.{literal_text}
use Rattle.term_tree.specs.Terms.{Text, Tree}
use Rattle.term_print.specs.Printing.{term_text}
use Rattle.trace_plain.specs.declared.trace.FailKind.{FailKind}
use Rattle.trace_plain.specs.declared.trace.FailKind.TheVariants as failure
use Rattle.trace_plain.specs.Trace.{Event, read_reg, write_reg, read_mem, write_mem, assume, need, assume_reg, Trace, trace, End, done, fail, cases, Traces, none, some, count}
use Rattle.trace_plain.specs.Rules.{var_name}

-- ---- words, each with a space before it

-- a register, by its name
abbrev pub register_text : List RegDecl → ℕ → Text
register_text registers r = 32 ∷ (slice_index_or registers r (record { name = []; width = 0 })).name

-- a variable
abbrev pub var_text : ℕ → Text
var_text var = 32 ∷ var_name var

-- a literal
abbrev pub value_text : Bits → Text
value_text value = 32 ∷ literal_text value

-- a number in decimal digits
abbrev pub number_text : ℕ → Text
number_text n = 32 ∷ decimal n

-- why a path fails
abbrev pub failure_text : FailKind → Text
failure_text failure.Match = codes " match"
failure_text failure.Assert = codes " assert"
failure_text failure.Exit = codes " exit"
failure_text failure.Unsupported = codes " unsupported"
failure_text failure.AssumedWritten = codes " assumed_written"

-- the line in front of so many children
abbrev pub cases_text : ℕ → Text
cases_text n = codes "cases" ++ (number_text n ++ 10 ∷ [])

-- a term
abbrev pub spaced : Tree → Text
spaced t = 32 ∷ term_text t

-- ---- traces over these registers
module _ (registers : List RegDecl) where
  -- an event
  abbrev pub event_text : Event → Text
  event_text (read_reg r var) = codes "read_reg" ++ (register_text registers r ++ var_text var)
  event_text (write_reg r t) = codes "write_reg" ++ (register_text registers r ++ spaced t)
  event_text (read_mem var at n) = codes "read_mem" ++ (var_text var ++ (spaced at ++ number_text n))
  event_text (write_mem at t n) = codes "write_mem" ++ (spaced at ++ (spaced t ++ number_text n))
  event_text (assume t) = codes "assume" ++ spaced t
  event_text (need t) = codes "need" ++ spaced t
  event_text (assume_reg r value) = codes "assume_reg" ++ (register_text registers r ++ value_text value)

  -- events, each as a line of its own
  abbrev pub events_text : List Event → Text
  events_text [] = []
  events_text (e ∷ es) = event_text e ++ 10 ∷ events_text es

  -- a trace, an end, and traces one after the other
  abbrev mutual
    pub trace_text : Trace → Text
    trace_text (trace events end) = events_text events ++ end_text end

    pub end_text : End → Text
    end_text done = codes "done\n"
    end_text (fail kind) = codes "fail" ++ (failure_text kind ++ 10 ∷ [])
    end_text (cases ts) = cases_text (count ts) ++ children_text ts

    pub children_text : Traces → Text
    children_text none = []
    children_text (some t ts) = trace_text t ++ children_text ts
