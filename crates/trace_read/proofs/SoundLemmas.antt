-- What is read is spelled.
use Rattle.std.proofs.Common.{◌≡◌, ℕ, zero, suc, ◌+◌, ◌≤◌, ◌<◌, List, [], ◌∷◌, ◌++◌, length, take, drop, replicate, Result, Ok, Err, refl, sym, ap, subst, ◌∙◌, arith}
use Rattle.std.specs.Prelude.{codes}
use Rattle.lex_core.specs.declared.name.RegDecl.{RegDecl}
use Rattle.lex_core.specs.Lexing as lexing
use Rattle.term_tree.specs.Terms.{Text}
use Rattle.term_print.specs.Words.{name, number, Lexeme, lexemes}
use Rattle.term_words.specs.Scopes.{Scope}
use Rattle.term_read.specs.Spelling.{Words, placed}
use Rattle.trace_plain.specs.Trace as trace
use Rattle.trace_plain.specs.Trace.{Event, Trace, End, Traces, none, some, count, size, end_size, all_size}
use Rattle.trace_plain.specs.View.{traces}
use Rattle.trace_read.specs.declared.reading.TheConstants.{MOST}
use Rattle.trace_read.specs.Lines.{Line, event, done, fail, cases, line}
use Rattle.trace_read.specs.Reading.{event_in_front, in_front, scopes_behind, nothing_left, traces_from, first_of, whole, of_cutting, trace_in}
use Rattle.trace_read.specs.Spelling.{SpellsTrace, an_event, a_done, a_failure, a_split, SpellsTraces, no_more, one_more, SpellsText}
use Rattle.trace_read.specs.Taking.{Left, Answer, Reading, ◌>>=◌}
use Rattle.trace_read.proofs.StepLemmas.{both, same_value}
use Rattle.trace_read.proofs.LineSoundLemmas.{SpellsLine, line_sound}
use Rattle.trace_read.specs.Paths.{scope_behind}

-- how many events and ends traces have
abbrev pub sizes : List Trace → ℕ
sizes [] = 0
sizes (t ∷ ts) = size t + sizes ts

module _ (registers : List RegDecl) where
  -- all words spell traces in a row, each where its own variables are bound
  abbrev pub SpellAll : List Scope → Words → List Trace → Type 0
  SpellAll [] ws [] = ws ≡ []
  SpellAll [] ws (t ∷ ts) = ⊥
  SpellAll (s ∷ ss) ws [] = ⊥
  SpellAll (s ∷ ss) ws (t ∷ ts) = (rest : Words) × SpellsTrace registers s ws t rest × SpellAll ss rest ts

  -- ---- a line in front

  event_sound : (scope : Scope) (later : List Scope) (ws rest : Words) (e : Event) (ts : List Trace) → SpellsLine registers scope ws (event e) rest
      → SpellAll (scope_behind registers scope e ∷ later) rest ts → SpellAll (scope ∷ later) ws (event_in_front e ts)
  event_sound scope later ws rest e [] h all = absurd all
  event_sound scope later ws rest e (trace.trace es end ∷ ts) h all = (all.0, an_event h all.1, all.2)

  done_sound : (scope : Scope) (later : List Scope) (ws rest : Words) (ts : List Trace) → SpellsLine registers scope ws done rest → SpellAll later rest ts → SpellAll (scope ∷ later) ws (trace.trace [] trace.done ∷ ts)
  done_sound scope later ws rest ts h all = (rest, subst (λ (us : Words). SpellsTrace registers scope us (trace.trace [] trace.done) rest) (sym h.1) a_done, all)

  fail_sound : (scope : Scope) (later : List Scope) (ws rest : Words) (kind : _) (ts : List Trace) → SpellsLine registers scope ws (fail kind) rest → SpellAll later rest ts
      → SpellAll (scope ∷ later) ws (trace.trace [] (trace.fail kind) ∷ ts)
  fail_sound scope later ws rest kind ts h all = (rest, subst (λ (us : Words). SpellsTrace registers scope us (trace.trace [] (trace.fail kind)) rest) (sym h.3) (a_failure h.4), all)

  -- so many in front are the children
  children_sound : (k : ℕ) (scope : Scope) (later : List Scope) (ws : Words) (ts : List Trace) → SpellAll (replicate k scope ++ later) ws ts
      → (rest : Words) × SpellsTraces registers scope ws (traces (take k ts)) rest × SpellAll later rest (drop k ts) × (count (traces (take k ts)) ≡ k)
  children_sound zero scope later ws ts all = (ws, no_more, all, refl)
  children_sound (suc k) scope later ws [] all = absurd all
  children_sound (suc k) scope later ws (t ∷ ts) all =
      let more = children_sound k scope later all.0 ts all.2 in
      (more.0, one_more all.1 more.1, more.2, ap suc more.3)

  split_spelled : (k : ℕ) (scope : Scope) (p q : ℕ) (ws rest : Words) (ts : Traces) → 0 < k → count ts ≡ k → SpellsTraces registers scope ws ts rest
      → SpellsTrace registers scope (placed (name (codes "cases")) p ∷ placed (number k) q ∷ ws) (trace.trace [] (trace.cases ts)) rest
  split_spelled k scope p q ws rest none positive e h = absurd (omega (arith, e))
  split_spelled k scope p q ws rest (some t ts) more e h = a_split (sym e) h

  split_sound : (k : ℕ) (scope : Scope) (later : List Scope) (ws rest : Words) (ts : List Trace) → SpellsLine registers scope ws (cases k) rest → SpellAll (replicate k scope ++ later) rest ts
      → SpellAll (scope ∷ later) ws (trace.trace [] (trace.cases (traces (take k ts))) ∷ drop k ts)
  split_sound k scope later ws rest ts h all =
      let children = children_sound k scope later rest ts all in (
        children.0,
        subst (λ (us : Words). SpellsTrace registers scope us (trace.trace [] (trace.cases (traces (take k ts)))) children.0) (sym h.2)
            (split_spelled k scope h.0 h.1 rest children.0 (traces (take k ts)) h.3 children.3 children.1),
        children.2,
      )

  joined_sound : (l : Line) (scope : Scope) (later : List Scope) (ws rest : Words) (ts : List Trace) → SpellsLine registers scope ws l rest → SpellAll (scopes_behind registers l scope later) rest ts
      → SpellAll (scope ∷ later) ws (in_front l ts)
  joined_sound (event e) scope later ws rest ts h all = event_sound scope later ws rest e ts h all
  joined_sound done scope later ws rest ts h all = done_sound scope later ws rest ts h all
  joined_sound (fail kind) scope later ws rest ts h all = fail_sound scope later ws rest kind ts h all
  joined_sound (cases k) scope later ws rest ts h all = split_sound k scope later ws rest ts h all

  -- ---- how many events and ends

  children_size : (k : ℕ) (ts : List Trace) → all_size (traces (take k ts)) + sizes (drop k ts) ≡ sizes ts
  children_size zero ts = omega arith
  children_size (suc k) [] = omega arith
  children_size (suc k) (t ∷ ts) = omega (arith, children_size k ts)

  joined_size : (l : Line) (ts : List Trace) → sizes (in_front l ts) ≤ suc (sizes ts)
  joined_size (event e) [] = omega arith
  joined_size (event e) (trace.trace es end ∷ ts) = omega arith
  joined_size done ts = omega arith
  joined_size (fail kind) ts = omega arith
  joined_size (cases k) ts = omega (arith, children_size k ts)

  -- ---- all lines

  nothing_sound : (ws : Words) (ts : List Trace) → nothing_left ws ≡ Ok ts → SpellAll [] ws ts × (sizes ts ≤ 0)
  nothing_sound [] ts e =
      let same : [] ≡ ts = same_value {A = List Trace} _ _ e in
      subst (λ (us : List Trace). SpellAll [] [] us × (sizes us ≤ 0)) same (refl, omega arith)
  nothing_sound (x ∷ xs) ts e = absurd (cc)

  pub traces_sound : (room : ℕ) (scopes : List Scope) (left : Left) (ts : List Trace) → traces_from registers room scopes left ≡ Ok ts → SpellAll scopes left.words ts × (sizes ts ≤ room)
  unfolding traces_from
  traces_sound zero [] left ts e = nothing_sound left.words ts e
  traces_sound zero (scope ∷ later) left ts e = absurd (cc)
  traces_sound (suc room) [] left ts e = let h = nothing_sound left.words ts e in (h.0, omega (arith, h.1))
  traces_sound (suc room) (scope ∷ later) left ts e =
      let a = both (line registers scope left) (λ first. traces_from registers room (scopes_behind registers first.0 scope later) first.1 >>= λ rest. Ok (in_front first.0 rest)) ts e in
      let b = both (traces_from registers room (scopes_behind registers a.0.0 scope later) a.0.1) (λ rest. Ok (in_front a.0.0 rest)) ts a.2 in
      let more = traces_sound room (scopes_behind registers a.0.0 scope later) a.0.1 b.0 b.1 in
      let same : in_front a.0.0 b.0 ≡ ts = same_value {A = List Trace} _ _ b.2 in
      let small = joined_size a.0.0 b.0 in (
        subst (λ (us : List Trace). SpellAll (scope ∷ later) left.words us) same
            (joined_sound a.0.0 scope later left.words a.0.1.words b.0 (line_sound registers scope left a.0.0 a.0.1 a.1) more.0),
        omega (arith, ap sizes same, more.1),
      )

  -- ---- one trace

  -- one trace alone
  alone : (ws : Words) (ts : List Trace) (t : Trace) → SpellAll ([] ∷ []) ws ts → first_of ts ≡ t → SpellsTrace registers [] ws t [] × (size t ≤ sizes ts)
  alone ws [] t all e = absurd all
  alone ws (u ∷ []) t all e =
      (subst (λ (v : Trace). SpellsTrace registers [] ws v []) e (subst (λ (r : Words). SpellsTrace registers [] ws u r) all.2 all.1), omega (arith, ap size e))
  alone ws (u ∷ v ∷ ts) t all e = absurd all.2

  pub whole_sound : (left : Left) (t : Trace) → whole registers left ≡ Ok t → SpellsTrace registers [] left.words t [] × (size t ≤ MOST)
  unfolding whole
  whole_sound left t e =
      let a = both (traces_from registers MOST ([] ∷ []) left) (λ found. Ok (first_of found)) t e in
      let all = traces_sound MOST ([] ∷ []) left a.0 a.1 in
      let own = alone left.words a.0 t all.0 (same_value {A = Trace} _ _ a.2) in
      (own.0, omega (arith, own.1, all.1))

pub read_is_spelled : (registers : List RegDecl) (text : Text) (t : Trace) → trace_in registers text ≡ Ok t → SpellsText registers text t × (size t ≤ MOST)
unfolding trace_in
read_is_spelled registers text t e = go (lexing.cut text) refl e
  where
    go : (o : lexing.Outcome) → lexing.cut text ≡ o → of_cutting registers text o ≡ Ok t → SpellsText registers text t × (size t ≤ MOST)
    go (Ok ts) is h =
        let own = whole_sound registers (record { words = lexemes text ts; end = length text }) t h in
        (record { tokens = ts; cutting = is; spells = own.0 }, own.1)
    go (Err f) is h = absurd (cc)
