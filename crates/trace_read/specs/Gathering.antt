-- The traces that are open while a text is read, and what they come to.
use Rattle.std.specs.Prelude.{◌≡◌, ◌≤◌, ⊤, ℕ, List, [], ◌∷◌, ◌++◌, length, map, reverse, take, drop, replicate}
use Rattle.lex_core.specs.declared.name.RegDecl.{RegDecl}
use Rattle.term_words.specs.Scopes.{Scope}
use Rattle.trace_plain.specs.declared.trace.PlainEvent.{PlainEvent}
use Rattle.trace_plain.specs.declared.trace.PlainTrace.{PlainTrace}
use Rattle.trace_plain.specs.Trace.{Event, Trace, trace, cases}
use Rattle.trace_plain.specs.View.{event_of, trace_of, traces}
use Rattle.trace_read.specs.declared.stack.Open as code_open
use Rattle.trace_read.specs.declared.stack.Turn as code_turn
use Rattle.trace_read.specs.declared.stack.Turn.TheVariants as own_turn
use Rattle.trace_read.specs.Lines.{Line}
use Rattle.trace_read.specs.Reading.{scopes_behind, in_front}

-- an end with children that are being read: the events in front of it, the children so far, how many come behind the present one, and how many
-- variables are bound in front of each
pub record Open : Type 0 where
  pub events : List Event
  pub children : List Trace
  pub later : ℕ
  pub bound : ℕ

-- the variables in front of each trace behind the present one, where these are bound now
abbrev pub later_scopes : Scope → List Open → List Scope
later_scopes scope [] = []
later_scopes scope (o ∷ os) = replicate o.later (take o.bound scope) ++ later_scopes scope os

-- no more is bound in front of an open trace than inside it
abbrev pub Nest : ℕ → List Open → Type 0
Nest n [] = ⊤
Nest n (o ∷ os) = (o.bound ≤ n) × Nest o.bound os

-- what the open traces and those behind them come to, where the present trace is this one and these come behind it
abbrev pub closed : List Open → Trace → List Trace → List Trace
closed [] t ts = t ∷ ts
closed (o ∷ os) t ts = closed os (trace o.events (cases (traces (o.children ++ t ∷ take o.later ts)))) (drop o.later ts)

-- the same where these events stand in front of the first of the traces
abbrev pub gathered : List Open → List Event → List Trace → List Trace
gathered os es [] = []
gathered os es (trace fs end ∷ ts) = closed os (trace (es ++ fs) end) ts

-- ---- the code's values

-- an open trace
abbrev pub open_view : code_open.Open → Open
open_view o = record { events = map event_of o.events; children = map trace_of o.children; later = o.later; bound = o.bound }

-- the open traces on the code's stack, the innermost first
unfoldable pub opens_of : List code_open.Open → List Open
opens_of stack = reverse (map open_view stack)

-- a trace with these variables, inside the open ones, becomes whole and leads to this turn
abbrev pub ClosesTo : Scope → List Open → Trace → code_turn.Turn → Scope → List Open → Type 0
ClosesTo scope os t (own_turn.Goes es) scope' os' =
    (later_scopes scope os ≡ scope' ∷ later_scopes scope' os') × ((u : Trace) (us : List Trace) → gathered os' (map event_of es) (u ∷ us) ≡ closed os t (u ∷ us))
ClosesTo scope os t (own_turn.Ends whole) scope' os' = (later_scopes scope os ≡ []) × (closed os t [] ≡ trace_of whole ∷ [])

-- behind events, in a trace with these variables inside the open ones, a line leads to this turn
abbrev pub LeadsTo : List RegDecl → Scope → List Open → List Event → Line → code_turn.Turn → Scope → List Open → Type 0
LeadsTo registers scope os es l (own_turn.Goes fs) scope' os' =
    (scopes_behind registers l scope (later_scopes scope os) ≡ scope' ∷ later_scopes scope' os')
    × ((u : Trace) (us : List Trace) → gathered os' (map event_of fs) (u ∷ us) ≡ gathered os es (in_front l (u ∷ us)))
LeadsTo registers scope os es l (own_turn.Ends whole) scope' os' =
    (scopes_behind registers l scope (later_scopes scope os) ≡ []) × (gathered os es (in_front l []) ≡ trace_of whole ∷ [])
