-- Reading a text as a trace: the traces that are to come, each with what is bound in front of it.
use Rattle.std.specs.Prelude.{ℕ, zero, suc, List, [], ◌∷◌, ◌++◌, length, take, drop, replicate, Option, Some, None, Result, Ok, Err}
use Rattle.lex_core.specs.declared.name.RegDecl.{RegDecl}
use Rattle.lex_core.specs.Lexing as lexing
use Rattle.term_tree.specs.Terms.{Text}
use Rattle.term_print.specs.Words.{lexemes}
use Rattle.term_read.specs.Spelling.{Words}
use Rattle.term_words.specs.Scopes.{Scope}
use Rattle.trace_plain.specs.Trace as trace
use Rattle.trace_plain.specs.Trace.{Event, Trace}
use Rattle.trace_plain.specs.View.{traces}
use Rattle.trace_read.specs.declared.fault.TraceFault.TheVariants as fault
use Rattle.trace_read.specs.declared.reading.TheConstants.{MOST}
use Rattle.trace_read.specs.Lines.{Line, event, done, fail, cases, line}
use Rattle.trace_read.specs.Paths.{scope_behind}
use Rattle.trace_read.specs.Taking.{Left, Answer, ◌>>=◌, place}

-- the variables in front of each trace that is to come behind a line, where the line stands in a trace with these variables and these come behind that
abbrev pub scopes_behind : List RegDecl → Line → Scope → List Scope → List Scope
scopes_behind registers (event e) scope later = scope_behind registers scope e ∷ later
scopes_behind registers done scope later = later
scopes_behind registers (fail kind) scope later = later
scopes_behind registers (cases k) scope later = replicate k scope ++ later

-- ---- lines as traces

-- an event in front of the first of traces
abbrev pub event_in_front : Event → List Trace → List Trace
event_in_front e [] = []
event_in_front e (trace.trace es end ∷ ts) = trace.trace (e ∷ es) end ∷ ts

-- a line in front of the traces behind it
abbrev pub in_front : Line → List Trace → List Trace
in_front (event e) ts = event_in_front e ts
in_front done ts = trace.trace [] trace.done ∷ ts
in_front (fail kind) ts = trace.trace [] (trace.fail kind) ∷ ts
in_front (cases k) ts = trace.trace [] (trace.cases (traces (take k ts))) ∷ drop k ts

-- ---- reading

-- nothing more is to come
abbrev pub nothing_left : Words → Answer (List Trace)
nothing_left [] = Ok []
nothing_left (x ∷ xs) = Err (fault.TraceForm x.at)

-- the traces that are to come, in front of each of which these variables are bound, up to the end of the text, where so many events and ends may come
unfoldable pub traces_from : List RegDecl → ℕ → List Scope → Left → Answer (List Trace)
traces_from registers room [] left = nothing_left left.words
traces_from registers zero (scope ∷ later) left = Err (fault.TraceForm (place left))
traces_from registers (suc room) (scope ∷ later) left = do
  first ← line registers scope left
  rest ← traces_from registers room (scopes_behind registers first.0 scope later) first.1
  Ok (in_front first.0 rest)

-- the first trace
abbrev pub first_of : List Trace → Trace
first_of [] = trace.trace [] trace.done
first_of (t ∷ ts) = t

-- all that is left, as one trace in front of which nothing is bound
unfoldable pub whole : List RegDecl → Left → Answer Trace
whole registers left = do
  found ← traces_from registers MOST ([] ∷ []) left
  Ok (first_of found)

-- a text that is cut so, as a trace
abbrev pub of_cutting : List RegDecl → Text → lexing.Outcome → Answer Trace
of_cutting registers text (Err f) = Err (fault.Lex f)
of_cutting registers text (Ok ts) = whole registers (record { words = lexemes text ts; end = length text })

-- the trace of a text, or the first fault
unfoldable pub trace_in : List RegDecl → Text → Answer Trace
trace_in registers text = of_cutting registers text (lexing.cut text)
