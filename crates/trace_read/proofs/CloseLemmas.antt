-- A whole trace closes the ends whose last child it is.
use Rattle.std.proofs.Common.{◌≡◌, ℕ, zero, suc, ◌+◌, ◌≤◌, ◌<◌, List, [], ◌∷◌, ◌++◌, length, map, take, drop, Result, Ok, Err, refl, sym, ap, subst, ◌∙◌, arith}
use Rattle.std.specs.Prelude.{IfOk, OnOk, ⊤}
use Rattle.std.proofs.lemmas.List.{map-append}
use Rattle.std.proofs.Math.Seq.{take-length, take-append_seam}
use Rattle.lex_core.specs.declared.memory.NoMemory.{NoMemory}
use Rattle.lex_core.specs.declared.name.RegDecl.{RegDecl}
use Rattle.term_words.specs.Scopes.{Scope}
use Rattle.trace_plain.specs.declared.trace.PlainEvent.{PlainEvent}
use Rattle.trace_plain.specs.declared.trace.PlainTrace.{PlainTrace}
use Rattle.trace_plain.specs.Trace as trace
use Rattle.trace_plain.specs.Trace.{Event, read_reg, write_reg, read_mem, write_mem, assume, need, assume_reg, Trace}
use Rattle.trace_plain.specs.View.{event_of, trace_of, traces}
use Rattle.trace_read.specs.declared.stack.Turn.{Turn}
use Rattle.trace_read.specs.declared.stack.Turn.TheVariants as own_turn
use Rattle.trace_read.specs.Gathering.{Open, later_scopes, Nest, closed, ClosesTo}
use Rattle.trace_read.specs.Paths.{width_at, bound, scope_behind}
use Rattle.trace_read.proofs.LeadLemmas.{nest_more, last_closes, last_scopes}

-- ---- what is pushed

pub more_events : (es new : List PlainEvent) (e : PlainEvent) → new ≡ es ++ e ∷ [] → map event_of new ≡ map event_of es ++ event_of e ∷ []
more_events es new e h = ap (map event_of) h ∙ map-append event_of es (e ∷ [])

pub more_traces : (ts new : List PlainTrace) (t : PlainTrace) → new ≡ ts ++ t ∷ [] → map trace_of new ≡ map trace_of ts ++ trace_of t ∷ []
more_traces ts new t h = ap (map trace_of) h ∙ map-append trace_of ts (t ∷ [])

-- the variables in front of an event are kept
kept : (registers : List RegDecl) (scope : Scope) (e : Event) → take (length scope) (scope_behind registers scope e) ≡ scope
kept registers scope (read_reg r x) = take-append_seam scope _
kept registers scope (write_reg r t) = take-length scope
kept registers scope (read_mem x at n) = take-append_seam scope _
kept registers scope (write_mem at t n) = take-length scope
kept registers scope (assume t) = take-length scope
kept registers scope (need t) = take-length scope
kept registers scope (assume_reg r value) = take-length scope

pub scope_kept : (registers : List RegDecl) (scope scope' : Scope) (e : Event) → scope' ≡ scope_behind registers scope e → take (length scope) scope' ≡ scope
scope_kept registers scope scope' e is = ap (take (length scope)) is ∙ kept registers scope e

-- ---- closing

-- a trace inside these open ones comes to the same as the first one, and so do the variables in front of what is behind
pub record Closing (scope scope' : Scope) (os os' : List Open) (t t' : Trace) : Type 0 where
  pub same_scope : scope' ≡ scope
  pub nest : Nest (length scope') os'
  pub later : later_scopes scope' os' ≡ later_scopes scope' os
  pub closes : (ts : List Trace) → closed os' t' ts ≡ closed os t ts

pub at_first : (scope : Scope) (os : List Open) (t : Trace) → Nest (length scope) os → Closing scope scope os os t t
at_first scope os t nest = record { same_scope = refl; nest = nest; later = refl; closes = λ ts. refl }

same_turn : (scope scope' : Scope) (os os' : List Open) (t t' : Trace) (turn : Turn) (s : Scope) (ss : List Open) → later_scopes scope' os' ≡ later_scopes scope os → ((ts : List Trace) → closed os' t' ts ≡ closed os t ts)
    → ClosesTo scope' os' t' turn s ss → ClosesTo scope os t turn s ss
same_turn scope scope' os os' t t' (own_turn.Goes es) s ss later closes h = (sym later ∙ h.0, λ u us. h.1 u us ∙ closes (u ∷ us))
same_turn scope scope' os os' t t' (own_turn.Ends whole) s ss later closes h = (sym later ∙ h.0, sym (closes []) ∙ h.1)

-- the next child of the innermost one
pub goes_on : (scope scope' : Scope) (os os' : List Open) (t t' : Trace) (o : Open) (rest : List Open) (r : Result Turn NoMemory) (s : Scope) (ss : List Open) → Closing scope scope' os os' t t' → os' ≡ o ∷ rest
    → IfOk r (λ turn. ClosesTo scope' (o ∷ rest) t' turn s ss) → IfOk r (λ turn. ClosesTo scope os t turn s ss)
goes_on scope scope' os os' t t' o rest (Ok turn) s ss h is k =
    same_turn scope scope' os (o ∷ rest) t t' turn s ss
    (ap (later_scopes scope') (sym is) ∙ h.later ∙ ap (λ (z : Scope). later_scopes z os) h.same_scope)
    (λ ts. ap (λ (l : List Open). closed l t' ts) (sym is) ∙ h.closes ts) k
goes_on scope scope' os os' t t' o rest (Err e) s ss h is k = tt

-- the last child of the innermost one
pub closes_one : (scope scope' : Scope) (os os' : List Open) (t t' u : Trace) (o : Open) (rest : List Open) → Closing scope scope' os os' t t' → os' ≡ o ∷ rest → o.later ≡ 0
    → u ≡ trace.trace o.events (trace.cases (traces (o.children ++ t' ∷ []))) → Closing scope scope' os rest t u
closes_one scope scope' os os' t t' u o rest h is none e =
    let nest = subst (Nest (length scope')) is h.nest in
    record {
      same_scope = h.same_scope;
      nest = nest_more o.bound (length scope') rest nest.0 nest.1;
      later = sym (last_scopes scope' o rest none) ∙ ap (later_scopes scope') (sym is) ∙ h.later;
      closes = λ ts. sym (last_closes o rest t' u ts none e) ∙ ap (λ (l : List Open). closed l t' ts) (sym is) ∙ h.closes ts;
    }

-- no more is open
pub all_closed : (scope scope' : Scope) (os os' : List Open) (t : Trace) (w : PlainTrace) → Closing scope scope' os os' t (trace_of w) → os' ≡ [] → (later_scopes scope os ≡ []) × (closed os t [] ≡ trace_of w ∷ [])
all_closed scope scope' os os' t w h none = (
  ap (λ (z : Scope). later_scopes z os) (sym h.same_scope) ∙ sym h.later ∙ ap (later_scopes scope') none,
  sym (h.closes []) ∙ ap (λ (l : List Open). closed l (trace_of w) []) none,
)

-- an event leaves what is open nested
pub event_path : (r : Result Turn NoMemory) (scope scope' : Scope) (os : List Open) (P : Type 0) → Nest (length scope) os → OnOk r (P × (length scope ≤ length scope') × (length scope' ≤ length scope + 1))
    → OnOk r (P × Nest (length scope') os × (length scope' ≤ length scope + 1))
event_path (Ok t) scope scope' os P nest h = (h.0, nest_more (length scope) (length scope') os h.1 nest, h.2)
event_path (Err e) scope scope' os P nest h = tt
