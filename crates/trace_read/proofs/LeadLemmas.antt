-- What lines do to the traces that are open.
use Rattle.std.proofs.Common.{◌≡◌, ℕ, zero, suc, ◌+◌, ◌-◌, ◌≤◌, ◌<◌, List, [], ◌∷◌, ◌++◌, length, map, take, drop, replicate, refl, sym, ap, subst, ◌∙◌, append_assoc, append-nil, arith}
use Rattle.std.proofs.lemmas.List.{take-take}
use Rattle.std.proofs.Math.Seq.{take-length}
use Rattle.lex_core.specs.declared.name.RegDecl.{RegDecl}
use Rattle.term_words.specs.Scopes.{Scope}
use Rattle.trace_plain.specs.declared.trace.PlainEvent.{PlainEvent}
use Rattle.trace_plain.specs.Trace as trace
use Rattle.trace_plain.specs.Trace.{Event, Trace, End}
use Rattle.trace_plain.specs.View.{event_of, traces}
use Rattle.trace_read.specs.declared.stack.Turn.{Turn}
use Rattle.trace_read.specs.declared.stack.Turn.TheVariants as own_turn
use Rattle.trace_read.specs.Gathering.{Open, later_scopes, Nest, closed, gathered, ClosesTo, LeadsTo}
use Rattle.trace_read.specs.Lines.{Line, event, done, fail, cases}
use Rattle.trace_read.specs.Paths.{scope_behind}
use Rattle.trace_read.specs.Reading.{event_in_front, in_front, scopes_behind}

-- ---- variables in front of what is behind

-- they depend on those alone that are bound in front of the open traces
later_same : (scope scope' : Scope) (n : ℕ) (os : List Open) → Nest n os → take n scope ≡ take n scope' → later_scopes scope os ≡ later_scopes scope' os
later_same scope scope' n [] h e = refl
later_same scope scope' n (o ∷ os) h e =
    let here : take o.bound scope ≡ take o.bound scope' =
    sym (take-take o.bound n scope h.0) ∙ ap (take o.bound) e ∙ take-take o.bound n scope' h.0 in
    ap (λ (s : Scope). replicate o.later s ++ later_scopes scope os) here
    ∙ ap (λ (ss : List Scope). replicate o.later (take o.bound scope') ++ ss) (later_same scope scope' o.bound os h.1 here)

pub nest_more : (n m : ℕ) (os : List Open) → n ≤ m → Nest n os → Nest m os
nest_more n m [] l h = tt
nest_more n m (o ∷ os) l h = (omega (arith, h.0), h.1)

-- ---- a trace that is whole

-- the open trace with one more child, and one less behind it
abbrev pub one_child : Open → Trace → ℕ → Open
one_child o t n = record { events = o.events; children = o.children ++ t ∷ []; later = n; bound = o.bound }

next_gathers : (o : Open) (os : List Open) (t : Trace) (n : ℕ) (u : Trace) (us : List Trace) → o.later ≡ suc n → gathered (one_child o t n ∷ os) [] (u ∷ us) ≡ closed (o ∷ os) t (u ∷ us)
next_gathers o os t n (trace.trace fs end) us some =
    ap (λ (cs : List Trace). closed os (trace.trace o.events (trace.cases (traces cs))) (drop n us)) (append_assoc o.children (t ∷ []) (trace.trace fs end ∷ take n us))
    ∙ sym (ap (λ (k : ℕ). closed os (trace.trace o.events (trace.cases (traces (o.children ++ t ∷ take k (trace.trace fs end ∷ us))))) (drop k (trace.trace fs end ∷ us))) some)

next_scopes : (scope : Scope) (o : Open) (os : List Open) (t : Trace) (n : ℕ) → Nest (length scope) (o ∷ os) → o.later ≡ suc n
    → later_scopes scope (o ∷ os) ≡ take o.bound scope ∷ later_scopes (take o.bound scope) (one_child o t n ∷ os)
next_scopes scope o os t n nest some =
    let again : take o.bound scope ≡ take o.bound (take o.bound scope) = sym (take-take o.bound o.bound scope (omega arith)) in
    ap (λ (k : ℕ). replicate k (take o.bound scope) ++ later_scopes scope os) some
    ∙ ap (λ (ss : List Scope). take o.bound scope ∷ (replicate n (take o.bound scope) ++ ss)) (later_same scope (take o.bound scope) o.bound os nest.1 again)
    ∙ ap (λ (s : Scope). take o.bound scope ∷ (replicate n s ++ later_scopes (take o.bound scope) os)) again

-- the next child begins
pub next_closes : (scope scope' : Scope) (o : Open) (os new : List Open) (t : Trace) (n : ℕ) (more : List PlainEvent) → Nest (length scope) (o ∷ os) → o.later ≡ suc n → scope' ≡ take o.bound scope
    → new ≡ one_child o t n ∷ os → more ≡ [] → ClosesTo scope (o ∷ os) t (own_turn.Goes more) scope' new
next_closes scope scope' o os new t n more nest some cut is none =
    subst (λ (s : Scope). ClosesTo scope (o ∷ os) t (own_turn.Goes more) s new) (sym cut)
    (subst (λ (k : List Open). ClosesTo scope (o ∷ os) t (own_turn.Goes more) (take o.bound scope) k) (sym is)
    (subst (λ (m : List PlainEvent). ClosesTo scope (o ∷ os) t (own_turn.Goes m) (take o.bound scope) (one_child o t n ∷ os)) (sym none)
    (next_scopes scope o os t n nest some, λ u us. next_gathers o os t n u us some)))

-- the last child closes its end
pub last_closes : (o : Open) (os : List Open) (t u : Trace) (ts : List Trace) → o.later ≡ 0 → u ≡ trace.trace o.events (trace.cases (traces (o.children ++ t ∷ []))) → closed (o ∷ os) t ts ≡ closed os u ts
last_closes o os t u ts none e =
    ap (λ (k : ℕ). closed os (trace.trace o.events (trace.cases (traces (o.children ++ t ∷ take k ts)))) (drop k ts)) none
    ∙ ap (λ (v : Trace). closed os v ts) (sym e)

pub last_scopes : (scope : Scope) (o : Open) (os : List Open) → o.later ≡ 0 → later_scopes scope (o ∷ os) ≡ later_scopes scope os
last_scopes scope o os none = ap (λ (k : ℕ). replicate k (take o.bound scope) ++ later_scopes scope os) none

-- ---- lines

-- an event stands behind those of its trace
pub event_leads : (registers : List RegDecl) (scope scope' : Scope) (os : List Open) (es : List Event) (e : Event) (more : List PlainEvent) → Nest (length scope) os → scope' ≡ scope_behind registers scope e
    → take (length scope) scope' ≡ scope → map event_of more ≡ es ++ e ∷ [] → LeadsTo registers scope os es (event e) (own_turn.Goes more) scope' os
event_leads registers scope scope' os es e more nest is same written =
    (ap (λ (s : Scope). s ∷ later_scopes scope os) (sym is) ∙ ap (λ (ss : List Scope). scope' ∷ ss) (later_same scope scope' (length scope) os nest (take-length scope ∙ sym same)), gathers)
  where
    gathers : (u : Trace) (us : List Trace) → gathered os (map event_of more) (u ∷ us) ≡ gathered os es (event_in_front e (u ∷ us))
    gathers (trace.trace fs end) us =
        ap (λ (l : List Event). closed os (trace.trace (l ++ fs) end) us) written ∙ ap (λ (l : List Event). closed os (trace.trace l end) us) (append_assoc es (e ∷ []) fs)

-- an end with children opens
pub split_leads : (registers : List RegDecl) (scope : Scope) (os new : List Open) (es : List Event) (k n : ℕ) (more : List PlainEvent) → k ≡ suc n
    → new ≡ record { events = es; children = []; later = n; bound = length scope } ∷ os → more ≡ [] → LeadsTo registers scope os es (cases k) (own_turn.Goes more) scope new
split_leads registers scope os new es k n more some is none =
    subst (λ (m : List PlainEvent). LeadsTo registers scope os es (cases k) (own_turn.Goes m) scope new) (sym none)
    (subst (λ (l : List Open). LeadsTo registers scope os es (cases k) (own_turn.Goes []) scope l) (sym is) (scopes, gathers))
  where
    opened : Open
    opened = record { events = es; children = []; later = n; bound = length scope }

    scopes : replicate k scope ++ later_scopes scope os ≡ scope ∷ (replicate n (take (length scope) scope) ++ later_scopes scope os)
    scopes =
        ap (λ (j : ℕ). replicate j scope ++ later_scopes scope os) some
        ∙ ap (λ (s : Scope). scope ∷ (replicate n s ++ later_scopes scope os)) (sym (take-length scope))

    gathers : (u : Trace) (us : List Trace) → gathered (record { events = es; children = []; later = n; bound = length scope } ∷ os) [] (u ∷ us)
        ≡ closed os (trace.trace (es ++ []) (trace.cases (traces (take k (u ∷ us))))) (drop k (u ∷ us))
    gathers (trace.trace fs end) us =
        ap (λ (l : List Event). closed os (trace.trace l (trace.cases (traces (trace.trace fs end ∷ take n us)))) (drop n us)) (sym (append-nil es))
        ∙ sym (ap (λ (j : ℕ). closed os (trace.trace (es ++ []) (trace.cases (traces (take j (trace.trace fs end ∷ us))))) (drop j (trace.trace fs end ∷ us))) some)

-- an end without children closes its trace
abbrev pub IsEnd : Line → End → Type 0
IsEnd l end = (ts : List Trace) → in_front l ts ≡ trace.trace [] end ∷ ts

pub end_leads : (registers : List RegDecl) (scope : Scope) (os : List Open) (es : List Event) (l : Line) (end : End) (turn : Turn) (scope' : Scope) (os' : List Open)
    → ((s : Scope) (ss : List Scope) → scopes_behind registers l s ss ≡ ss) → IsEnd l end → ClosesTo scope os (trace.trace es end) turn scope' os' → LeadsTo registers scope os es l turn scope' os'
end_leads registers scope os es l end (own_turn.Goes more) scope' os' behind is h = (
  behind scope (later_scopes scope os) ∙ h.0,
  λ u us. h.1 u us ∙ sym (ap (gathered os es) (is (u ∷ us)) ∙ ap (λ (fs : List Event). closed os (trace.trace fs end) (u ∷ us)) (append-nil es)),
)
end_leads registers scope os es l end (own_turn.Ends t) scope' os' behind is h = (
  behind scope (later_scopes scope os) ∙ h.0,
  ap (gathered os es) (is []) ∙ ap (λ (fs : List Event). closed os (trace.trace fs end) []) (append-nil es) ∙ h.1,
)
