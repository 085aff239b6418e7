-- The words of a trace spell it.
use Rattle.std.proofs.Common.{◌≡◌, ◌≢◌, ℕ, zero, suc, ◌+◌, ◌*◌, ◌≤◌, ◌<◌, Bool, true, false, cond, List, [], ◌∷◌, ◌++◌, length, Option, Some, None, refl, sym, ap, subst, ◌∙◌, append_assoc, arith}
use Rattle.std.specs.Prelude.{bytes_eq, codes, slice_index_or}
use Rattle.std.specs.List.{position_from}
use Rattle.std.proofs.lemmas.Slice.Eq.{bytes_eq-Decides}
use Rattle.lex_core.specs.declared.name.RegDecl.{RegDecl}
use Rattle.term_tree.specs.Terms.{Text, Tree}
use Rattle.term_tree.proofs.SameLemmas.{same_text}
use Rattle.term_make.specs.Normal.{IsNormal}
use Rattle.term_print.specs.Words.{Word, name, number, literal, Lexeme}
use Rattle.term_print.specs.TermWords.{term_words}
use Rattle.term_words.specs.Scopes.{Scope}
use Rattle.term_read.specs.Spelling.{Words, placed, Spells}
use Rattle.term_round_trip.specs.WordLaws.{Follows}
use Rattle.term_round_trip.proofs.WordLemmas.{splits, words_spell}
use Rattle.trace_plain.specs.declared.trace.FailKind.{FailKind}
use Rattle.trace_plain.specs.declared.trace.FailKind.TheVariants as failure
use Rattle.trace_plain.specs.Printable.{AreRegisters, HasText, IsPrintableEvent, ArePrintableEvents, IsPrintable, IsPrintableEnd, ArePrintable}
use Rattle.trace_plain.specs.Rules.{var_name, register_width, Fits, bound_behind, KeepsRules, KeepRules, TraceKeepsRules, EndKeepsRules, ChildrenKeepRules}
use Rattle.trace_plain.specs.Trace.{Event, read_reg, write_reg, read_mem, write_mem, assume, need, assume_reg, Trace, trace, End, done, fail, cases, Traces, none, some, count, size, end_size, all_size}
use Rattle.trace_read.specs.declared.reading.TheConstants.{MOST}
use Rattle.trace_read.specs.Paths.{scope_behind}
use Rattle.trace_read.specs.Spelling.{SpellsTerm, SpellsEvent, reads_register, writes_register, reads_memory, writes_memory, assumes, needs, assumes_register, SpellsTrace, an_event, a_done, a_failure, a_split, SpellsTraces, no_more, one_more}
use Rattle.trace_plain.specs.Terms.{OfEvent, OfEvents, OfTrace, OfEnd, OfTraces}
use Rattle.trace_read.specs.WordTables.{failure_of}
use Rattle.trace_read.specs.Words.{register_number}
use Rattle.trace_read.proofs.BoundLemmas.{scope_of, as_many, bound_is, KnowsRegister, is_declared}
use Rattle.trace_read.proofs.LineSoundLemmas.{register_is}
use Rattle.trace_round_trip.specs.TraceWords.{register_name, failure_name, event_words, events_words, trace_words, end_words, children_words}
use Rattle.trace_round_trip.proofs.TraceCutLemmas.{behind_length}

-- ---- registers

-- a register is found by its name
found_from : (registers : List RegDecl) (i r : ℕ) (d : RegDecl) → ((j : ℕ) → j < r → (slice_index_or registers j d).name ≢ (slice_index_or registers r d).name) → r < length registers
    → position_from (λ (c : RegDecl). bytes_eq c.name (slice_index_or registers r d).name) i registers ≡ Some (i + r)
found_from [] i r d differ l = absurd (omega arith)
found_from (c ∷ cs) i zero d differ l =
    ap (λ (t : Bool). cond t (Some i) (position_from (λ (e : RegDecl). bytes_eq e.name c.name) (i + 1) cs)) ((bytes_eq-Decides c.name c.name).1 refl) ∙ ap (λ (n : ℕ). Some n) (omega arith)
found_from (c ∷ cs) i (suc r) d differ l =
    let x = (slice_index_or cs r d).name in
    ap (λ (t : Bool). cond t (Some i) (position_from (λ (e : RegDecl). bytes_eq e.name x) (i + 1) cs)) (other (bytes_eq c.name x) refl)
    ∙ found_from cs (i + 1) r d (λ j less. differ (suc j) (omega arith)) (omega arith) ∙ ap (λ (n : ℕ). Some n) (omega arith)
  where
    other : (t : Bool) → bytes_eq c.name (slice_index_or cs r d).name ≡ t → t ≡ false
    other true e = absurd (differ zero (omega arith) (same_text c.name (slice_index_or cs r d).name e))
    other false e = refl

pub number_is : (registers : List RegDecl) (r : ℕ) → AreRegisters registers → r < length registers → register_number registers (register_name registers r) ≡ Some r
unfolding register_number
number_is registers r fine l =
    found_from registers 0 r (record { name = []; width = 0 }) (λ j less. fine.differ j r (record { name = []; width = 0 }) less l) l ∙ ap (λ (n : ℕ). Some n) (omega arith)

-- ---- words in front

-- one word and more
first_is : (w : Word) (ws : List Word) (ls r : Words) → Follows (w ∷ ws) ls r → (p : ℕ) × (rest : Words) × (ls ≡ placed w p ∷ rest) × Follows ws rest r
first_is w ws [] r h = absurd h
first_is w ws (l ∷ ls) r h = (l.at, ls, ap (λ (u : Word). placed u l.at ∷ ls) h.0, h.1)

module _ (registers : List RegDecl) (fine : AreRegisters registers) (b : List ℕ) (room : length b ≤ MOST) where
  term_spelled : (width : ℕ) (t : Tree) (ls r : Words) → Fits b width t → HasText t → IsNormal t → Follows (term_words t) ls r → SpellsTerm (scope_of b) width ls t r
  term_spelled width t ls r fits text normal h =
      record { spells = words_spell (scope_of b) t ls r text.term normal text.no_division (is_declared b t room fits.variables) h; wide = fits.width }

  -- the number of the next variable
  next : (x : ℕ) → x ≡ length b → x ≡ length (scope_of b)
  next x e = e ∙ sym (as_many 0 b)

  -- an event
  abbrev Spelled : Words → Event → Words → Type 0
  Spelled ls e r = SpellsEvent registers (scope_of b) ls e r

  -- words that are known one by one
  by_one : (w : Word) (ws : List Word) (e : Event) (ls r : Words) → Follows (w ∷ ws) ls r → ((p : ℕ) (rest : Words) → Follows ws rest r → Spelled (placed w p ∷ rest) e r) → Spelled ls e r
  by_one w ws e ls r h k = let f = first_is w ws ls r h in subst (λ (us : Words). Spelled us e r) (sym f.2) (k f.0 f.1 f.3)

  by_two : (v w : Word) (ws : List Word) (e : Event) (ls r : Words) → Follows (v ∷ w ∷ ws) ls r → ((p q : ℕ) (rest : Words) → Follows ws rest r → Spelled (placed v p ∷ placed w q ∷ rest) e r) → Spelled ls e r
  by_two v w ws e ls r h k =
      by_one v (w ∷ ws) e ls r h
      (λ p us g. let f = first_is w ws us r g in subst (λ (vs : Words). Spelled (placed v p ∷ vs) e r) (sym f.2) (k p f.0 f.1 f.3))

  -- the last word
  last_is : (w : Word) (ls r : Words) → Follows (w ∷ []) ls r → (p : ℕ) × (ls ≡ placed w p ∷ r)
  last_is w ls r h = let f = first_is w [] ls r h in (f.0, f.2 ∙ ap (λ (us : Words). placed w f.0 ∷ us) f.3)

  event_spelled : (e : Event) (ls r : Words) → KeepsRules registers b e → IsPrintableEvent (length registers) e → OfEvent IsNormal e → Follows (event_words registers e) ls r → Spelled ls e r
  event_spelled (read_reg i x) ls r keeps print normal h =
      by_two (name (codes "read_reg")) (name (register_name registers i)) (name (var_name x) ∷ []) (read_reg i x) ls r h
      (λ p q us g.
      let f = last_is (name (var_name x)) us r g in
      subst (λ (vs : Words). Spelled (placed (name (codes "read_reg")) p ∷ placed (name (register_name registers i)) q ∷ vs) (read_reg i x) r) (sym f.1)
      (subst (λ (n : ℕ). Spelled (placed (name (codes "read_reg")) p ∷ placed (name (register_name registers i)) q ∷ placed (name (var_name n)) f.0 ∷ r) (read_reg i n) r) (sym (next x keeps.next))
      (reads_register (number_is registers i fine print))))
  event_spelled (write_reg i t) ls r keeps print normal h =
      by_two (name (codes "write_reg")) (name (register_name registers i)) (term_words t) (write_reg i t) ls r h
      (λ p q us g. writes_register (number_is registers i fine print.0) keeps.register (term_spelled keeps.width t us r keeps.term print.1 normal g))
  event_spelled (read_mem x a n) ls r keeps print normal h =
      by_two (name (codes "read_mem")) (name (var_name x)) (term_words a ++ number n ∷ []) (read_mem x a n) ls r h
      (λ p q us g.
      let s = splits (term_words a) (number n ∷ []) us r g in
      let f = last_is (number n) s.0 r s.2 in
      subst (λ (m : ℕ). Spelled (placed (name (codes "read_mem")) p ∷ placed (name (var_name m)) q ∷ us) (read_mem m a n) r) (sym (next x keeps.0))
      (reads_memory (subst (λ (vs : Words). SpellsTerm (scope_of b) 64 us a vs) f.1 (term_spelled 64 a us s.0 keeps.1 print normal s.1)) keeps.2))
  event_spelled (write_mem a t n) ls r keeps print normal h =
      by_one (name (codes "write_mem")) (term_words a ++ (term_words t ++ number n ∷ [])) (write_mem a t n) ls r h
      (λ p us g.
      let s = splits (term_words a) (term_words t ++ number n ∷ []) us r g in
      let u = splits (term_words t) (number n ∷ []) s.0 r s.2 in
      let f = last_is (number n) u.0 r u.2 in
      writes_memory (term_spelled 64 a us s.0 keeps.0 print.0 normal.0 s.1)
      (subst (λ (vs : Words). SpellsTerm (scope_of b) (8 * n) s.0 t vs) f.1 (term_spelled (8 * n) t s.0 u.0 keeps.1 print.1 normal.1 u.1)) keeps.2)
  event_spelled (assume t) ls r keeps print normal h =
      by_one (name (codes "assume")) (term_words t) (assume t) ls r h (λ p us g. assumes (term_spelled 1 t us r keeps print normal g))
  event_spelled (need t) ls r keeps print normal h =
      by_one (name (codes "need")) (term_words t) (need t) ls r h (λ p us g. needs (term_spelled 1 t us r keeps print normal g))
  event_spelled (assume_reg i value) ls r keeps print normal h =
      by_two (name (codes "assume_reg")) (name (register_name registers i)) (literal value ∷ []) (assume_reg i value) ls r h
      (λ p q us g.
      let f = last_is (literal value) us r g in
      subst (λ (vs : Words). Spelled (placed (name (codes "assume_reg")) p ∷ placed (name (register_name registers i)) q ∷ vs) (assume_reg i value) r) (sym f.1)
      (assumes_register (number_is registers i fine print) keeps.0))

  -- the register of an event is declared
  knows : (e : Event) → KeepsRules registers b e → IsPrintableEvent (length registers) e → KnowsRegister registers e
  knows (read_reg i x) keeps print = register_is registers (register_name registers i) i (number_is registers i fine print)
  knows (write_reg i t) keeps print = tt
  knows (read_mem x a n) keeps print = tt
  knows (write_mem a t n) keeps print = tt
  knows (assume t) keeps print = tt
  knows (need t) keeps print = tt
  knows (assume_reg i value) keeps print = tt

-- ---- traces

failure_is : (kind : FailKind) → failure_of (failure_name kind) ≡ Some kind
unfolding failure_of
failure_is failure.Match = refl
failure_is failure.Assert = refl
failure_is failure.Exit = refl
failure_is failure.Unsupported = refl
failure_is failure.AssumedWritten = refl

module _ (registers : List RegDecl) (fine : AreRegisters registers) where
  -- an end alone
  ends_spelled : (scope : Scope) (w : Word) (t : Trace) (ls r : Words) → Follows (w ∷ []) ls r → ((p : ℕ) → SpellsTrace registers scope (placed w p ∷ r) t r) → SpellsTrace registers scope ls t r
  ends_spelled scope w t ls r h k = let f = first_is w [] ls r h in subst (λ (us : Words). SpellsTrace registers scope us t r) (sym (f.2 ∙ ap (λ (vs : Words). placed w f.0 ∷ vs) f.3)) (k f.0)

  -- two words, and more
  two_spelled : (scope : Scope) (v w : Word) (ws : List Word) (t : Trace) (ls r : Words) → Follows (v ∷ w ∷ ws) ls r
      → ((p q : ℕ) (us : Words) → Follows ws us r → SpellsTrace registers scope (placed v p ∷ placed w q ∷ us) t r) → SpellsTrace registers scope ls t r
  two_spelled scope v w ws t ls r h k =
      let f = first_is v (w ∷ ws) ls r h in
      let g = first_is w ws f.1 r f.3 in
      subst (λ (us : Words). SpellsTrace registers scope us t r) (sym (f.2 ∙ ap (λ (vs : Words). placed v f.0 ∷ vs) g.2)) (k f.0 g.0 g.1 g.3)

  -- events, and then an end, however it is
  events_spelled : (end : End) (r : Words) → ((c : List ℕ) (us : Words) → length c + end_size end ≤ MOST → EndKeepsRules registers end c → Follows (end_words registers end) us r → SpellsTrace registers (scope_of c) us (trace [] end) r)
      → (b : List ℕ) (es : List Event) (ls : Words) → length b + (length es + end_size end) ≤ MOST → KeepRules registers (EndKeepsRules registers end) b es
      → ArePrintableEvents (length registers) es → OfEvents IsNormal es → Follows (events_words registers es ++ end_words registers end) ls r → SpellsTrace registers (scope_of b) ls (trace es end) r
  events_spelled end r ending b [] ls room keeps print normal h = ending b ls (omega arith) keeps h
  events_spelled end r ending b (e ∷ es) ls room keeps print normal h =
      let whole = subst (λ (ws : List Word). Follows ws ls r) (append_assoc (event_words registers e) (events_words registers es) (end_words registers end)) h in
      let s = splits (event_words registers e) (events_words registers es ++ end_words registers end) ls r whole in
      let more = events_spelled end r ending (bound_behind registers b e) es s.0 (omega (arith, behind_length registers b e)) keeps.1 print.1 normal.1 s.2 in
      an_event (event_spelled registers fine b (omega arith) e ls s.0 keeps.0 print.0 normal.0 s.1)
      (subst (λ (scope : Scope). SpellsTrace registers scope s.0 (trace es end) r) (sym (bound_is registers b e (knows registers fine b (omega arith) e keeps.0 print.0))) more)

  mutual
    pub trace_spelled : (b : List ℕ) (t : Trace) (ls r : Words) → length b + size t ≤ MOST → TraceKeepsRules registers t b → IsPrintable (length registers) t → OfTrace IsNormal t
        → Follows (trace_words registers t) ls r → SpellsTrace registers (scope_of b) ls t r
    trace_spelled b (trace es end) ls r room keeps print normal h = events_spelled end r (λ c us few k g. end_spelled c end us r few k print.1 normal.1 g) b es ls room keeps print.0 normal.0 h

    end_spelled : (b : List ℕ) (end : End) (ls r : Words) → length b + end_size end ≤ MOST → EndKeepsRules registers end b → IsPrintableEnd (length registers) end → OfEnd IsNormal end
        → Follows (end_words registers end) ls r → SpellsTrace registers (scope_of b) ls (trace [] end) r
    end_spelled b done ls r room keeps print normal h = ends_spelled (scope_of b) (name (codes "done")) (trace [] done) ls r h (λ p. a_done)
    end_spelled b (fail kind) ls r room keeps print normal h =
        two_spelled (scope_of b) (name (codes "fail")) (name (failure_name kind)) [] (trace [] (fail kind)) ls r h
        (λ p q us e. subst (λ (vs : Words). SpellsTrace registers (scope_of b) (placed (name (codes "fail")) p ∷ placed (name (failure_name kind)) q ∷ vs) (trace [] (fail kind)) r) (sym e) (a_failure (failure_is kind)))
    end_spelled b (cases none) ls r room keeps print normal h = absurd keeps
    end_spelled b (cases (some t ts)) ls r room keeps print normal h =
        two_spelled (scope_of b) (name (codes "cases")) (number (count (some t ts))) (children_words registers (some t ts)) (trace [] (cases (some t ts))) ls r h
        (λ p q us g. a_split refl (children_spelled b (some t ts) us r (omega arith) keeps print normal g))

    children_spelled : (b : List ℕ) (ts : Traces) (ls r : Words) → length b + all_size ts ≤ MOST → ChildrenKeepRules registers ts b → ArePrintable (length registers) ts → OfTraces IsNormal ts
        → Follows (children_words registers ts) ls r → SpellsTraces registers (scope_of b) ls ts r
    children_spelled b none ls r room keeps print normal h = subst (λ (us : Words). SpellsTraces registers (scope_of b) us none r) (sym h) no_more
    children_spelled b (some t ts) ls r room keeps print normal h =
        let s = splits (trace_words registers t) (children_words registers ts) ls r h in
        one_more (trace_spelled b t ls s.0 (omega arith) keeps.0 print.0 normal.0 s.1) (children_spelled b ts s.0 r (omega arith) keeps.1 print.1 normal.1 s.2)
