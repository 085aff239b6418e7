-- The words of a trace as it is printed.
use Rattle.std.specs.Prelude.{ℕ, List, [], ◌∷◌, ◌++◌, slice_index_or, codes}
use Rattle.lex_core.specs.declared.name.RegDecl.{RegDecl}
use Rattle.term_tree.specs.Terms.{Text}
use Rattle.term_print.specs.Words.{Word, name, number, literal}
use Rattle.term_print.specs.TermWords.{term_words}
use Rattle.trace_plain.specs.declared.trace.FailKind.{FailKind}
use Rattle.trace_plain.specs.declared.trace.FailKind.TheVariants as failure
use Rattle.trace_plain.specs.Rules.{var_name}
use Rattle.trace_plain.specs.Trace.{Event, read_reg, write_reg, read_mem, write_mem, assume, need, assume_reg, Trace, trace, End, done, fail, cases, Traces, none, some, count}

-- a register, by its name
abbrev pub register_name : List RegDecl → ℕ → Text
register_name registers r = (slice_index_or registers r (record { name = []; width = 0 })).name

-- why a path fails
abbrev pub failure_name : FailKind → Text
failure_name failure.Match = codes "match"
failure_name failure.Assert = codes "assert"
failure_name failure.Exit = codes "exit"
failure_name failure.Unsupported = codes "unsupported"
failure_name failure.AssumedWritten = codes "assumed_written"

-- traces over these registers
module _ (registers : List RegDecl) where
  -- an event
  abbrev pub event_words : Event → List Word
  event_words (read_reg r x) = name (codes "read_reg") ∷ name (register_name registers r) ∷ name (var_name x) ∷ []
  event_words (write_reg r t) = name (codes "write_reg") ∷ name (register_name registers r) ∷ term_words t
  event_words (read_mem x at n) = name (codes "read_mem") ∷ name (var_name x) ∷ (term_words at ++ number n ∷ [])
  event_words (write_mem at t n) = name (codes "write_mem") ∷ (term_words at ++ (term_words t ++ number n ∷ []))
  event_words (assume t) = name (codes "assume") ∷ term_words t
  event_words (need t) = name (codes "need") ∷ term_words t
  event_words (assume_reg r value) = name (codes "assume_reg") ∷ name (register_name registers r) ∷ literal value ∷ []

  -- events
  abbrev pub events_words : List Event → List Word
  events_words [] = []
  events_words (e ∷ es) = event_words e ++ events_words es

  -- a trace, an end, and traces one after the other
  abbrev mutual
    pub trace_words : Trace → List Word
    trace_words (trace events end) = events_words events ++ end_words end

    pub end_words : End → List Word
    end_words done = name (codes "done") ∷ []
    end_words (fail kind) = name (codes "fail") ∷ name (failure_name kind) ∷ []
    end_words (cases ts) = name (codes "cases") ∷ number (count ts) ∷ children_words ts

    pub children_words : Traces → List Word
    children_words none = []
    children_words (some t ts) = trace_words t ++ children_words ts
