-- What one turn of the reading loop does to the answer.
use Rattle.std.proofs.Common.{◌≡◌, ◌≢◌, ℕ, zero, suc, ◌+◌, ◌-◌, ◌≤◌, ◌<◌, List, [], ◌∷◌, ◌++◌, length, map, replicate, take, drop, Result, Ok, Err, refl, sym, ap, subst, ◌∙◌, arith}
use Rattle.lex_core.specs.declared.name.RegDecl.{RegDecl}
use Rattle.term_print.specs.Words.{Lexeme}
use Rattle.term_words.specs.Scopes.{Scope}
use Rattle.trace_plain.specs.declared.trace.PlainTrace.{PlainTrace}
use Rattle.trace_plain.specs.declared.trace.PlainEvent.{PlainEvent}
use Rattle.trace_plain.specs.Trace as trace
use Rattle.trace_plain.specs.Trace.{Event, Trace}
use Rattle.trace_plain.specs.View.{event_of, trace_of, traces}
use Rattle.trace_read.specs.declared.fault.TraceFault.{TraceFault}
use Rattle.trace_read.specs.declared.fault.TraceFault.TheVariants as fault
use Rattle.trace_read.specs.declared.reading.TheConstants.{MOST}
use Rattle.trace_read.specs.declared.stack.Turn.TheVariants as own_turn
use Rattle.trace_read.specs.Gathering.{Open, later_scopes, Nest, gathered, LeadsTo}
use Rattle.trace_read.specs.Lines.{Line, event, done, fail, cases, line}
use Rattle.trace_read.specs.Reading.{event_in_front, in_front, scopes_behind, nothing_left, traces_from, first_of, whole}
use Rattle.trace_read.specs.Taking.{Left, Answer, Reading, ◌>>=◌, place_of, place}
use Rattle.trace_read.specs.Readers.{IsPath}
use Rattle.trace_read.proofs.ScopeLemmas.{path_none}

-- ---- where traces are to come, there is one

-- a list that isn't empty
abbrev pub IsSomeList : List Trace → Type 0
IsSomeList [] = ⊥
IsSomeList (t ∷ ts) = Unit {0}

-- so is what is read, if anything is
abbrev pub ReadsSome : Answer (List Trace) → Type 0
ReadsSome (Ok ts) = IsSomeList ts
ReadsSome (Err e) = Unit {0}

event_some : (e : Event) (ts : List Trace) → IsSomeList ts → IsSomeList (event_in_front e ts)
event_some e [] h = absurd h
event_some e (trace.trace es end ∷ ts) h = tt

line_some : (l : Line) (scope : Scope) (later : List Scope) (registers : List RegDecl) (ts : List Trace) → ((s : Scope) (ss : List Scope) → scopes_behind registers l scope later ≡ s ∷ ss → IsSomeList ts) → IsSomeList (in_front l ts)
line_some (event e) scope later registers ts h = event_some e ts (h _ _ refl)
line_some done scope later registers ts h = tt
line_some (fail kind) scope later registers ts h = tt
line_some (cases k) scope later registers ts h = tt

joined_some : (l : Line) (scope : Scope) (later : List Scope) (registers : List RegDecl) (x : Answer (List Trace)) → ((s : Scope) (ss : List Scope) → scopes_behind registers l scope later ≡ s ∷ ss → ReadsSome x) → ReadsSome (x >>= λ ts. Ok (in_front l ts))
joined_some l scope later registers (Ok ts) h = line_some l scope later registers ts h
joined_some l scope later registers (Err e) h = tt

read_some : (registers : List RegDecl) (room : ℕ) (scope : Scope) (later : List Scope) (left : Left) → ReadsSome (traces_from registers room (scope ∷ later) left)
unfolding traces_from
read_some registers zero scope later left = tt
read_some registers (suc room) scope later left = go (line registers scope left) (λ s ss r. read_some registers room s ss r)
  where
    go : (r : Reading Line) → ((s : Scope) (ss : List Scope) (r : Left) → ReadsSome (traces_from registers room (s ∷ ss) r))
        → ReadsSome (r >>= λ first. traces_from registers room (scopes_behind registers first.0 scope later) first.1 >>= λ rest. Ok (in_front first.0 rest))
    go (Ok (l, r)) more =
        joined_some l scope later registers (traces_from registers room (scopes_behind registers l scope later) r)
        (λ s ss e. subst (λ (k : List Scope). ReadsSome (traces_from registers room k r)) (sym e) (more s ss r))
    go (Err e) more = tt

-- ---- a turn

-- what the open traces come to, where these are read behind
abbrev pub finish : List Open → List Event → Answer (List Trace) → Answer (List Trace)
finish os es (Ok ts) = Ok (gathered os es ts)
finish os es (Err e) = Err e

-- at first nothing is open
pub finish_none : (x : Answer (List Trace)) → finish [] [] x ≡ x
finish_none (Ok []) = refl
finish_none (Ok (trace.trace fs end ∷ ts)) = refl
finish_none (Err e) = refl

module _ (registers : List RegDecl) (room : ℕ) (scope : Scope) (os : List Open) (es : List Event) (left : Left) where
  -- the answer from here on
  abbrev pub from_here : Answer (List Trace)
  from_here = finish os es (traces_from registers (suc room) (scope ∷ later_scopes scope os) left)

  -- what a line and those behind it give
  abbrev joins : Line × Left → Answer (List Trace)
  joins first = traces_from registers room (scopes_behind registers first.0 scope (later_scopes scope os)) first.1 >>= λ rest. Ok (in_front first.0 rest)

  by_line : (r : Reading Line) → line registers scope left ≡ r → from_here ≡ finish os es (r >>= joins)
  unfolding traces_from
  by_line r e = ap (λ (m : Reading Line). finish os es (m >>= joins)) e

  same_join : (l : Line) (fs : List Event) (os' : List Open) (x : Answer (List Trace)) → ReadsSome x → ((u : Trace) (us : List Trace) → gathered os' fs (u ∷ us) ≡ gathered os es (in_front l (u ∷ us)))
      → finish os' fs x ≡ finish os es (x >>= λ rest. Ok (in_front l rest))
  same_join l fs os' (Ok []) some h = absurd some
  same_join l fs os' (Ok (u ∷ us)) some h = ap (λ (ts : List Trace). Ok ts) (h u us)
  same_join l fs os' (Err e) some h = refl

  -- reading goes on
  pub goes_on : (l : Line) (r : Left) (more : List PlainEvent) (scope' : Scope) (os' : List Open) → line registers scope left ≡ Ok (l, r) → LeadsTo registers scope os es l (own_turn.Goes more) scope' os'
      → finish os' (map event_of more) (traces_from registers room (scope' ∷ later_scopes scope' os') r) ≡ from_here
  goes_on l r more scope' os' e h =
      same_join l (map event_of more) os' (traces_from registers room (scope' ∷ later_scopes scope' os') r) (read_some registers room scope' (later_scopes scope' os') r) h.1
      ∙ ap (λ (ss : List Scope). finish os es (traces_from registers room ss r >>= λ rest. Ok (in_front l rest))) (sym h.0)
      ∙ sym (by_line (Ok (l, r)) e)

  nothing_more : (ws : List Lexeme) (r : Left) → r.words ≡ ws → traces_from registers room [] r ≡ nothing_left ws
  unfolding traces_from
  nothing_more ws r e = ap nothing_left e

  ends_with : (l : Line) (r : Left) (t : PlainTrace) (scope' : Scope) (os' : List Open) (ws : List Lexeme) → line registers scope left ≡ Ok (l, r) → LeadsTo registers scope os es l (own_turn.Ends t) scope' os' → r.words ≡ ws
      → from_here ≡ finish os es (nothing_left ws >>= λ rest. Ok (in_front l rest))
  ends_with l r t scope' os' ws e h is =
      by_line (Ok (l, r)) e
      ∙ ap (λ (ss : List Scope). finish os es (traces_from registers room ss r >>= λ rest. Ok (in_front l rest))) h.0
      ∙ ap (λ (x : Answer (List Trace)). finish os es (x >>= λ rest. Ok (in_front l rest))) (nothing_more ws r is)

  -- the whole trace ends
  pub ends_here : (l : Line) (r : Left) (t : PlainTrace) (scope' : Scope) (os' : List Open) → line registers scope left ≡ Ok (l, r) → LeadsTo registers scope os es l (own_turn.Ends t) scope' os' → r.words ≡ []
      → from_here ≡ Ok (trace_of t ∷ [])
  ends_here l r t scope' os' e h is = ends_with l r t scope' os' [] e h is ∙ ap (λ (ts : List Trace). Ok ts) h.1

  -- words stand behind it
  pub too_long : (l : Line) (r : Left) (t : PlainTrace) (scope' : Scope) (os' : List Open) (x : Lexeme) (xs : List Lexeme) → line registers scope left ≡ Ok (l, r) → LeadsTo registers scope os es l (own_turn.Ends t) scope' os'
      → r.words ≡ x ∷ xs → from_here ≡ Err (fault.TraceForm x.at)
  too_long l r t scope' os' x xs e h is = ends_with l r t scope' os' (x ∷ xs) e h is

  -- a line is at fault
  pub fails_here : (f : TraceFault) → line registers scope left ≡ Err f → from_here ≡ Err f
  fails_here f e = by_line (Err f) e

-- no more may come
pub no_room : (registers : List RegDecl) (scope : Scope) (os : List Open) (es : List Event) (left : Left) → finish os es (traces_from registers 0 (scope ∷ later_scopes scope os) left) ≡ Err (fault.TraceForm (place left))
unfolding traces_from
no_room registers scope os es left = refl

-- ---- the whole

pub whole_is : (registers : List RegDecl) (left : Left) (t : Trace) → traces_from registers MOST ([] ∷ []) left ≡ Ok (t ∷ []) → whole registers left ≡ Ok t
unfolding whole
whole_is registers left t e = ap (λ (x : Answer (List Trace)). x >>= λ found. Ok (first_of found)) e

pub whole_fails : (registers : List RegDecl) (left : Left) (f : TraceFault) → traces_from registers MOST ([] ∷ []) left ≡ Err f → whole registers left ≡ Err f
unfolding whole
whole_fails registers left f e = ap (λ (x : Answer (List Trace)). x >>= λ found. Ok (first_of found)) e

-- ---- the loop

-- so many events and ends are read, and what is left behind them leads to the whole answer
pub record Reaches (registers : List RegDecl) (count : ℕ) (scope : Scope) (os : List Open) (es : List Event) (left first : Left) : Type 0 where
  pub path : IsPath scope
  pub nest : Nest (length scope) os
  pub few : length scope ≤ count
  pub same : finish os es (traces_from registers (MOST - count) (scope ∷ later_scopes scope os) left) ≡ traces_from registers MOST ([] ∷ []) first

-- at first
pub reaches_first : (registers : List RegDecl) (scope : Scope) (os : List Open) (left : Left) → scope ≡ [] → os ≡ [] → Reaches registers 0 scope os [] left left
reaches_first registers scope os left none closed =
    record {
      path = subst IsPath (sym none) path_none;
      nest = subst (Nest (length scope)) (sym closed) tt;
      few = omega (arith, ap length none);
      same =
          ap (λ (s : Scope). finish os [] (traces_from registers (MOST - 0) (s ∷ later_scopes s os) left)) none
          ∙ ap (λ (l : List Open). finish l [] (traces_from registers (MOST - 0) ([] ∷ later_scopes [] l) left)) closed
          ∙ ap (λ (n : ℕ). finish [] [] (traces_from registers n ([] ∷ []) left)) (omega arith)
          ∙ finish_none (traces_from registers MOST ([] ∷ []) left);
    }

module _ (registers : List RegDecl) (count : ℕ) (scope : Scope) (os : List Open) (es : List Event) (left first : Left) (so_far : Reaches registers count scope os es left first) (less : count < MOST) where
  -- the answer from here on is the whole one
  from_first : from_here registers (MOST - (count + 1)) scope os es left ≡ traces_from registers MOST ([] ∷ []) first
  from_first = ap (λ (n : ℕ). finish os es (traces_from registers n (scope ∷ later_scopes scope os) left)) (omega arith) ∙ so_far.same

  -- a line more
  pub reaches_more : (l : Line) (r : Left) (more : List PlainEvent) (scope' : Scope) (os' : List Open) → line registers scope left ≡ Ok (l, r) → LeadsTo registers scope os es l (own_turn.Goes more) scope' os'
      → IsPath scope' × Nest (length scope') os' × (length scope' ≤ length scope + 1) → Reaches registers (count + 1) scope' os' (map event_of more) r first
  reaches_more l r more scope' os' e h fine =
      record {
        path = fine.0;
        nest = fine.1;
        few = omega (arith, fine.2, so_far.few);
        same = goes_on registers (MOST - (count + 1)) scope os es left l r more scope' os' e h ∙ from_first;
      }

  -- the whole trace
  pub reaches_end : (l : Line) (r : Left) (t : PlainTrace) (scope' : Scope) (os' : List Open) → line registers scope left ≡ Ok (l, r) → LeadsTo registers scope os es l (own_turn.Ends t) scope' os' → r.words ≡ []
      → whole registers first ≡ Ok (trace_of t)
  reaches_end l r t scope' os' e h none = whole_is registers first (trace_of t) (sym from_first ∙ ends_here registers (MOST - (count + 1)) scope os es left l r t scope' os' e h none)

  -- words behind it
  pub reaches_more_words : (l : Line) (r : Left) (t : PlainTrace) (scope' : Scope) (os' : List Open) → line registers scope left ≡ Ok (l, r) → LeadsTo registers scope os es l (own_turn.Ends t) scope' os' → (r.words ≡ [] → ⊥)
      → whole registers first ≡ Err (fault.TraceForm (place r))
  reaches_more_words l r t scope' os' e h some = go r.words refl
    where
      go : (ws : List Lexeme) → r.words ≡ ws → whole registers first ≡ Err (fault.TraceForm (place r))
      go [] is = absurd (some is)
      go (x ∷ xs) is =
          whole_fails registers first (fault.TraceForm x.at) (sym from_first ∙ too_long registers (MOST - (count + 1)) scope os es left l r t scope' os' x xs e h is)
          ∙ ap (λ (ws : List Lexeme). Err (fault.TraceForm (place_of ws r.end))) (sym is)

  -- a line at fault
  pub reaches_fault : (f : TraceFault) → line registers scope left ≡ Err f → whole registers first ≡ Err f
  reaches_fault f e = whole_fails registers first f (sym from_first ∙ fails_here registers (MOST - (count + 1)) scope os es left f e)

-- no more may come
pub reaches_most : (registers : List RegDecl) (count : ℕ) (scope : Scope) (os : List Open) (es : List Event) (left first : Left) → Reaches registers count scope os es left first → count ≡ MOST
    → whole registers first ≡ Err (fault.TraceForm (place left))
reaches_most registers count scope os es left first so_far all =
    whole_fails registers first (fault.TraceForm (place left))
    (sym so_far.same ∙ ap (λ (n : ℕ). finish os es (traces_from registers n (scope ∷ later_scopes scope os) left)) (omega arith) ∙ no_room registers scope os es left)
