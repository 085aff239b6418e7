-- What is spelled is read.
use Rattle.std.proofs.Common.{◌≡◌, ℕ, zero, suc, ◌+◌, ◌-◌, ◌*◌, ◌≤◌, ◌<◌, Bool, true, false, List, [], ◌∷◌, ◌++◌, length, take, drop, replicate, Option, Some, Result, Ok, Err, refl, sym, ap, subst, ◌∙◌, append_assoc, arith}
use Rattle.std.specs.Prelude.{bytes_eq, codes, nat_eq, slice_get, slice_index_or, if◌then◌else◌}
use Rattle.std.specs.Option.{option_map}
use Rattle.std.proofs.lemmas.Bool.{eq-eqb, ne_eqb}
use Rattle.std.proofs.lemmas.Slice.Eq.{bytes_eq-Decides}
use Rattle.bv_bits.specs.declared.Bits.{Bits}
use Rattle.lex_core.specs.declared.name.RegDecl.{RegDecl}
use Rattle.lex_core.specs.Lexing as lexing
use Rattle.lex_core.proofs.LawLemmas.{same_tokens}
use Rattle.lex_core.specs.declared.token.Token.{Token}
use Rattle.term_tree.specs.Terms.{Text, Tree, width_of}
use Rattle.term_print.specs.Words.{Word, name, number, literal, Lexeme, lexemes}
use Rattle.term_words.specs.Scopes.{Scope}
use Rattle.term_read.specs.Spelling.{Words, placed, Spells}
use Rattle.term_read.proofs.SpelledLemmas.{spelled_read}
use Rattle.trace_plain.specs.declared.trace.FailKind.{FailKind}
use Rattle.trace_plain.specs.Rules.{var_name, register_width, IsByteCount}
use Rattle.trace_plain.specs.Trace as trace
use Rattle.trace_plain.specs.Trace.{Event, read_reg, write_reg, read_mem, write_mem, assume, need, assume_reg, Trace, End, Traces, none, some, count, size, end_size, all_size}
use Rattle.trace_plain.specs.View.{traces}
use Rattle.trace_read.specs.declared.fault.TraceFault.TheVariants as fault
use Rattle.trace_read.specs.declared.reading.TheConstants.{MOST}
use Rattle.trace_read.specs.declared.word_tables.Head.{Head}
use Rattle.trace_read.specs.declared.word_tables.Head.TheVariants as head
use Rattle.trace_read.specs.Lines.{Line, event, done, fail, cases, next_variable, read_reg_line, write_reg_line, read_mem_line, write_mem_line, assume_line, need_line, assume_reg_line, fail_line, cases_line, line_behind, line}
use Rattle.trace_read.specs.Paths.{width_at, scope_behind}
use Rattle.trace_read.specs.Reading.{event_in_front, in_front, scopes_behind, nothing_left, traces_from, first_of, whole, of_cutting, trace_in}
use Rattle.trace_read.specs.Spelling.{SpellsTerm, SpellsEvent, reads_register, writes_register, reads_memory, writes_memory, assumes, needs, assumes_register, SpellsTrace, an_event, a_done, a_failure, a_split, SpellsTraces, no_more, one_more, SpellsText}
use Rattle.trace_read.specs.Taking.{Left, Answer, Reading, ◌>>=◌, place, one, term_read, term, term_of, if_fits}
use Rattle.trace_read.specs.WordTables.{head_of, failure_of}
use Rattle.trace_read.specs.Words as words
use Rattle.trace_read.specs.Words.{declared, known, register_number, is_byte_count}
use Rattle.trace_read.proofs.StepLemmas.{takes, same_value}
use Rattle.trace_read.proofs.LineSoundLemmas.{register_is}

-- words that are left, in a text that ends there
abbrev pub at : Words → ℕ → Left
at ws end = record { words = ws; end = end }

-- ---- words

head_read : (h : Head) (x : Text) (p : ℕ) → head_of x ≡ Some h → words.head (placed (name x) p) ≡ Ok h
unfolding words.head
head_read h x p e = ap (λ (o : Option Head). known o p) e

failure_read : (kind : FailKind) (x : Text) (p : ℕ) → failure_of x ≡ Some kind → words.failure (placed (name x) p) ≡ Ok kind
unfolding words.failure
failure_read kind x p e = ap (λ (o : Option FailKind). known o p) e

register_read : (registers : List RegDecl) (x : Text) (p r : ℕ) → register_number registers x ≡ Some r → words.register registers (placed (name x) p) ≡ Ok r
unfolding words.register
register_read registers x p r e = ap (λ (o : Option ℕ). declared o p) e

same_bytes : (x : Text) → bytes_eq x x ≡ true
same_bytes x = (bytes_eq-Decides x x).1 refl

variable_read : (n p : ℕ) → words.variable n (placed (name (var_name n)) p) ≡ Ok n
unfolding words.variable
variable_read n p = ap (λ (b : Bool). if b then Ok n else Err (fault.TraceForm p)) (same_bytes (var_name n))

count_is : (n : ℕ) → IsByteCount n → is_byte_count n ≡ true
count_is n (zero, l, e) = ap is_byte_count (sym e)
count_is n (suc zero, l, e) = ap is_byte_count (sym e)
count_is n (suc (suc zero), l, e) = ap is_byte_count (sym e)
count_is n (suc (suc (suc zero)), l, e) = ap is_byte_count (sym e)
count_is n (suc (suc (suc (suc zero))), l, e) = ap is_byte_count (sym e)
count_is n (suc (suc (suc (suc (suc k)))), l, e) = absurd (omega arith)

byte_count_read : (n p : ℕ) → IsByteCount n → words.byte_count (placed (number n) p) ≡ Ok n
unfolding words.byte_count
byte_count_read n p h = ap (λ (b : Bool). if b then Ok n else Err (fault.TraceForm p)) (count_is n h)

child_count_read : (n p k : ℕ) → n ≡ suc k → words.child_count (placed (number n) p) ≡ Ok n
unfolding words.child_count
child_count_read n p k e = ap (λ (b : Bool). if b then Err (fault.TraceForm p) else Ok n) (ne_eqb n 0 (λ none. omega arith))

value_read : (b : Bits) (width p : ℕ) → b.width ≡ width → words.value width (placed (literal b) p) ≡ Ok b
unfolding words.value
value_read b width p e = ap (λ (c : Bool). if_fits c p b) (eq-eqb b.width width e)

-- ---- terms

term_complete : (scope : Scope) (end : ℕ) (ws rest : Words) (t : Tree) → Spells scope 1024 ws t rest → term scope (at ws end) ≡ Ok (t, at rest end)
unfolding term
term_complete scope end ws rest t h = ap (term_read end) (spelled_read scope end ws rest t h)

wide_complete : (scope : Scope) (width end : ℕ) (ws rest : Words) (t : Tree) → SpellsTerm scope width ws t rest → term_of scope width (at ws end) ≡ Ok (t, at rest end)
unfolding term_of
wide_complete scope width end ws rest t h =
    ap (λ (r : Reading Tree). r >>= λ found. if_fits (nat_eq (width_of found.0) width) (place (at ws end)) found) (term_complete scope end ws rest t h.spells)
    ∙ ap (λ (b : Bool). if_fits b (place (at ws end)) (t, at rest end)) (eq-eqb (width_of t) width h.wide)

-- ---- lines

module _ (registers : List RegDecl) (scope : Scope) (end : ℕ) where
  -- a line by its first word
  begins : (h : Head) (x : Text) (p : ℕ) (ws : Words) → head_of x ≡ Some h → line registers scope (at (placed (name x) p ∷ ws) end) ≡ line_behind registers scope h (at ws end)
  unfolding line
  begins h x p ws e = ap (λ (r : Reading Head). r >>= λ begun. line_behind registers scope begun.0 begun.1) (takes words.head (placed (name x) p) ws end h (head_read h x p e))

  register_taken : (x : Text) (q r : ℕ) (ws : Words) → register_number registers x ≡ Some r → one (words.register registers) (at (placed (name x) q ∷ ws) end) ≡ Ok (r, at ws end)
  register_taken x q r ws e = takes (words.register registers) (placed (name x) q) ws end r (register_read registers x q r e)

  variable_taken : (q : ℕ) (ws : Words) → one (words.variable (length scope)) (at (placed (name (var_name (length scope))) q ∷ ws) end) ≡ Ok (length scope, at ws end)
  variable_taken q ws = takes (words.variable (length scope)) (placed (name (var_name (length scope))) q) ws end (length scope) (variable_read (length scope) q)

  count_taken : (n s : ℕ) (ws : Words) → IsByteCount n → one words.byte_count (at (placed (number n) s ∷ ws) end) ≡ Ok (n, at ws end)
  count_taken n s ws h = takes words.byte_count (placed (number n) s) ws end n (byte_count_read n s h)

  -- the width of a declared register
  same_width : (r width : ℕ) (x : Text) → register_number registers x ≡ Some r → register_width registers r ≡ Some width → width ≡ width_at registers r
  same_width r width x e w = let both : Some width ≡ Some (width_at registers r) = sym w ∙ register_is registers x r e in cc

  read_reg_complete : (x : Text) (q s r : ℕ) (rest : Words) → register_number registers x ≡ Some r
      → read_reg_line registers scope (at (placed (name x) q ∷ placed (name (var_name (length scope))) s ∷ rest) end) ≡ Ok (event (read_reg r (length scope)), at rest end)
  unfolding read_reg_line next_variable
  read_reg_complete x q s r rest e =
      ap (λ (m : Reading ℕ). m >>= λ r. one (words.variable (length scope)) r.1 >>= λ v. Ok (event (read_reg r.0 v.0), v.1)) (register_taken x q r _ e)
      ∙ ap (λ (m : Reading ℕ). m >>= λ v. Ok (event (read_reg r v.0), v.1)) (variable_taken s rest)

  write_reg_complete : (x : Text) (q r width : ℕ) (ws rest : Words) (t : Tree) → register_number registers x ≡ Some r → register_width registers r ≡ Some width → SpellsTerm scope width ws t rest
      → write_reg_line registers scope (at (placed (name x) q ∷ ws) end) ≡ Ok (event (write_reg r t), at rest end)
  unfolding write_reg_line
  write_reg_complete x q r width ws rest t e w h =
      ap (λ (m : Reading ℕ). m >>= λ r. term_of scope (width_at registers r.0) r.1 >>= λ t. Ok (event (write_reg r.0 t.0), t.1)) (register_taken x q r ws e)
      ∙ ap (λ (m : Reading Tree). m >>= λ t. Ok (event (write_reg r t.0), t.1))
      (wide_complete scope (width_at registers r) end ws rest t (subst (λ (v : ℕ). SpellsTerm scope v ws t rest) (same_width r width x e w) h))

  read_mem_complete : (q s n : ℕ) (ws rest : Words) (a : Tree) → SpellsTerm scope 64 ws a (placed (number n) s ∷ rest) → IsByteCount n
      → read_mem_line scope (at (placed (name (var_name (length scope))) q ∷ ws) end) ≡ Ok (event (read_mem (length scope) a n), at rest end)
  unfolding read_mem_line next_variable
  read_mem_complete q s n ws rest a h k =
      ap (λ (m : Reading ℕ). m >>= λ v. term_of scope 64 v.1 >>= λ t. one words.byte_count t.1 >>= λ n. Ok (event (read_mem v.0 t.0 n.0), n.1)) (variable_taken q ws)
      ∙ ap (λ (m : Reading Tree). m >>= λ t. one words.byte_count t.1 >>= λ n. Ok (event (read_mem (length scope) t.0 n.0), n.1)) (wide_complete scope 64 end ws _ a h)
      ∙ ap (λ (m : Reading ℕ). m >>= λ n. Ok (event (read_mem (length scope) a n.0), n.1)) (count_taken n s rest k)

  write_mem_complete : (s n : ℕ) (ws ws' rest : Words) (a t : Tree) → SpellsTerm scope 64 ws a ws' → SpellsTerm scope (8 * n) ws' t (placed (number n) s ∷ rest) → IsByteCount n
      → write_mem_line scope (at ws end) ≡ Ok (event (write_mem a t n), at rest end)
  unfolding write_mem_line
  write_mem_complete s n ws ws' rest a t h k c =
      ap (λ (m : Reading Tree). m >>= λ a. term scope a.1 >>= λ t. one words.byte_count t.1 >>= λ n. if_fits (nat_eq (width_of t.0) (8 * n.0)) (place a.1) (event (write_mem a.0 t.0 n.0), n.1))
      (wide_complete scope 64 end ws ws' a h)
      ∙ ap (λ (m : Reading Tree). m >>= λ t. one words.byte_count t.1 >>= λ n. if_fits (nat_eq (width_of t.0) (8 * n.0)) (place (at ws' end)) (event (write_mem a t.0 n.0), n.1))
      (term_complete scope end ws' _ t k.spells)
      ∙ ap (λ (m : Reading ℕ). m >>= λ n. if_fits (nat_eq (width_of t) (8 * n.0)) (place (at ws' end)) (event (write_mem a t n.0), n.1)) (count_taken n s rest c)
      ∙ ap (λ (b : Bool). if_fits b (place (at ws' end)) (event (write_mem a t n), at rest end)) (eq-eqb (width_of t) (8 * n) k.wide)

  assume_complete : (ws rest : Words) (t : Tree) → SpellsTerm scope 1 ws t rest → assume_line scope (at ws end) ≡ Ok (event (assume t), at rest end)
  unfolding assume_line
  assume_complete ws rest t h = ap (λ (m : Reading Tree). m >>= λ t. Ok (event (assume t.0), t.1)) (wide_complete scope 1 end ws rest t h)

  need_complete : (ws rest : Words) (t : Tree) → SpellsTerm scope 1 ws t rest → need_line scope (at ws end) ≡ Ok (event (need t), at rest end)
  unfolding need_line
  need_complete ws rest t h = ap (λ (m : Reading Tree). m >>= λ t. Ok (event (need t.0), t.1)) (wide_complete scope 1 end ws rest t h)

  assume_reg_complete : (x : Text) (q s r : ℕ) (b : Bits) (rest : Words) → register_number registers x ≡ Some r → register_width registers r ≡ Some b.width
      → assume_reg_line registers (at (placed (name x) q ∷ placed (literal b) s ∷ rest) end) ≡ Ok (event (assume_reg r b), at rest end)
  unfolding assume_reg_line
  assume_reg_complete x q s r b rest e w =
      ap (λ (m : Reading ℕ). m >>= λ r. one (words.value (width_at registers r.0)) r.1 >>= λ b. Ok (event (assume_reg r.0 b.0), b.1)) (register_taken x q r _ e)
      ∙ ap (λ (m : Reading Bits). m >>= λ b. Ok (event (assume_reg r b.0), b.1))
      (takes (words.value (width_at registers r)) (placed (literal b) s) rest end b (value_read b (width_at registers r) s (same_width r b.width x e w)))

  fail_complete : (x : Text) (q : ℕ) (kind : FailKind) (rest : Words) → failure_of x ≡ Some kind → fail_line (at (placed (name x) q ∷ rest) end) ≡ Ok (fail kind, at rest end)
  unfolding fail_line
  fail_complete x q kind rest e = ap (λ (m : Reading FailKind). m >>= λ k. Ok (fail k.0, k.1)) (takes words.failure (placed (name x) q) rest end kind (failure_read kind x q e))

  cases_complete : (n q k : ℕ) (rest : Words) → n ≡ suc k → cases_line (at (placed (number n) q ∷ rest) end) ≡ Ok (cases n, at rest end)
  unfolding cases_line
  cases_complete n q k rest e = ap (λ (m : Reading ℕ). m >>= λ n. Ok (cases n.0, n.1)) (takes words.child_count (placed (number n) q) rest end n (child_count_read n q k e))

  -- an event that is spelled is read
  event_complete : (ws rest : Words) (e : Event) → SpellsEvent registers scope ws e rest → line registers scope (at ws end) ≡ Ok (event e, at rest end)
  unfolding head_of
  event_complete ws rest e (reads_register {p = p} {q = q} {s = s} {r = r} {x = x} h) = begins head.ReadReg (codes "read_reg") p _ refl ∙ read_reg_complete x q s r rest h
  event_complete ws rest e (writes_register {p = p} {q = q} {r = r} {width = w} {x = x} {t = t} {ws = us} h k l) = begins head.WriteReg (codes "write_reg") p _ refl ∙ write_reg_complete x q r w us rest t h k l
  event_complete ws rest e (reads_memory {p = p} {q = q} {s = s} {n = n} {a = a} {ws = us} h k) = begins head.ReadMem (codes "read_mem") p _ refl ∙ read_mem_complete q s n us rest a h k
  event_complete ws rest e (writes_memory {p = p} {s = s} {n = n} {a = a} {t = t} {ws = us} {ws' = vs} h k l) = begins head.WriteMem (codes "write_mem") p us refl ∙ write_mem_complete s n us vs rest a t h k l
  event_complete ws rest e (assumes {p = p} {t = t} {ws = us} h) = begins head.Assume (codes "assume") p us refl ∙ assume_complete us rest t h
  event_complete ws rest e (needs {p = p} {t = t} {ws = us} h) = begins head.Need (codes "need") p us refl ∙ need_complete us rest t h
  event_complete ws rest e (assumes_register {p = p} {q = q} {s = s} {r = r} {x = x} {b = b} h k) = begins head.AssumeReg (codes "assume_reg") p _ refl ∙ assume_reg_complete x q s r b rest h k

  done_complete : (p : ℕ) (rest : Words) → line registers scope (at (placed (name (codes "done")) p ∷ rest) end) ≡ Ok (done, at rest end)
  unfolding head_of
  done_complete p rest = begins head.Done (codes "done") p rest refl

  failed_complete : (p q : ℕ) (x : Text) (kind : FailKind) (rest : Words) → failure_of x ≡ Some kind → line registers scope (at (placed (name (codes "fail")) p ∷ placed (name x) q ∷ rest) end) ≡ Ok (fail kind, at rest end)
  unfolding head_of
  failed_complete p q x kind rest e = begins head.Fail (codes "fail") p _ refl ∙ fail_complete x q kind rest e

  split_complete : (p q n k : ℕ) (rest : Words) → n ≡ suc k → line registers scope (at (placed (name (codes "cases")) p ∷ placed (number n) q ∷ rest) end) ≡ Ok (cases n, at rest end)
  unfolding head_of
  split_complete p q n k rest e = begins head.Cases (codes "cases") p _ refl ∙ cases_complete n q k rest e

-- ---- traces

-- traces in a row as a list
abbrev pub list_of : Traces → List Trace
list_of none = []
list_of (some t ts) = t ∷ list_of ts

listed : (ts : Traces) → traces (list_of ts) ≡ ts
listed none = refl
listed (some t ts) = ap (some t) (listed ts)

-- these in front of what is read behind
abbrev pub in_front_of_all : List Trace → Answer (List Trace) → Answer (List Trace)
in_front_of_all ts (Ok us) = Ok (ts ++ us)
in_front_of_all ts (Err f) = Err f

event_joins : (e : Event) (es : List Event) (end : End) (x : Answer (List Trace))
    → (in_front_of_all (trace.trace es end ∷ []) x >>= λ rest. Ok (event_in_front e rest)) ≡ in_front_of_all (trace.trace (e ∷ es) end ∷ []) x
event_joins e es end (Ok us) = refl
event_joins e es end (Err f) = refl

one_joins : (t : Trace) (l : Line) (x : Answer (List Trace)) → ((ts : List Trace) → in_front l ts ≡ t ∷ ts) → (x >>= λ rest. Ok (in_front l rest)) ≡ in_front_of_all (t ∷ []) x
one_joins t l (Ok us) h = ap (λ (ts : List Trace). Ok ts) (h us)
one_joins t l (Err f) h = refl

more_joins : (t : Trace) (ts : List Trace) (x : Answer (List Trace)) → in_front_of_all (t ∷ []) (in_front_of_all ts x) ≡ in_front_of_all (t ∷ ts) x
more_joins t ts (Ok us) = refl
more_joins t ts (Err f) = refl

first_ones : (ts : Traces) (us : List Trace) → take (count ts) (list_of ts ++ us) ≡ list_of ts
first_ones none us = refl
first_ones (some t ts) us = ap (λ (l : List Trace). t ∷ l) (first_ones ts us)

other_ones : (ts : Traces) (us : List Trace) → drop (count ts) (list_of ts ++ us) ≡ us
other_ones none us = refl
other_ones (some t ts) us = other_ones ts us

split_joins : (ts : Traces) (n : ℕ) (x : Answer (List Trace)) → n ≡ count ts
    → (in_front_of_all (list_of ts) x >>= λ rest. Ok (in_front (cases n) rest)) ≡ in_front_of_all (trace.trace [] (trace.cases ts) ∷ []) x
split_joins ts n (Ok us) e =
    ap (λ (k : ℕ). Ok (in_front (cases k) (list_of ts ++ us))) e
    ∙ ap (λ (l : List Trace). Ok (trace.trace [] (trace.cases (traces l)) ∷ drop (count ts) (list_of ts ++ us))) (first_ones ts us)
    ∙ ap (λ (v : Traces). Ok (trace.trace [] (trace.cases v) ∷ drop (count ts) (list_of ts ++ us))) (listed ts)
    ∙ ap (λ (l : List Trace). Ok (trace.trace [] (trace.cases ts) ∷ l)) (other_ones ts us)
split_joins ts n (Err f) e = refl

none_joins : (x : Answer (List Trace)) → x ≡ in_front_of_all [] x
none_joins (Ok us) = refl
none_joins (Err f) = refl

module _ (registers : List RegDecl) (end : ℕ) where
  -- reading goes on behind a line
  by_line : (room : ℕ) (scope : Scope) (later : List Scope) (ws rest : Words) (l : Line) → line registers scope (at ws end) ≡ Ok (l, at rest end)
      → traces_from registers (suc room) (scope ∷ later) (at ws end) ≡ (traces_from registers room (scopes_behind registers l scope later) (at rest end) >>= λ ts. Ok (in_front l ts))
  unfolding traces_from
  by_line room scope later ws rest l e =
      ap (λ (r : Reading Line). r >>= λ first. traces_from registers room (scopes_behind registers first.0 scope later) first.1 >>= λ ts. Ok (in_front first.0 ts)) e

  mutual
    trace_complete : (scope : Scope) (ws rest : Words) (t : Trace) → SpellsTrace registers scope ws t rest → (n room : ℕ) (later : List Scope) → n ≡ size t + room
        → traces_from registers n (scope ∷ later) (at ws end) ≡ in_front_of_all (t ∷ []) (traces_from registers room later (at rest end))
    trace_complete scope ws rest t (an_event {ws' = us} {e = e} {es = es} {end = last} h more) zero room later is = absurd (omega arith)
    trace_complete scope ws rest t (an_event {ws' = us} {e = e} {es = es} {end = last} h more) (suc n) room later is =
        by_line n scope later ws us (event e) (event_complete registers scope end ws us e h)
        ∙ ap (λ (x : Answer (List Trace)). x >>= λ ts. Ok (event_in_front e ts)) (trace_complete (scope_behind registers scope e) us rest (trace.trace es last) more n room later (omega arith))
        ∙ event_joins e es last (traces_from registers room later (at rest end))
    trace_complete scope ws rest t a_done zero room later is = absurd (omega arith)
    trace_complete scope ws rest t (a_done {p = p}) (suc n) room later is =
        by_line n scope later ws rest done (done_complete registers scope end p rest)
        ∙ ap (λ (k : ℕ). traces_from registers k later (at rest end) >>= λ ts. Ok (in_front done ts)) (omega arith)
        ∙ one_joins (trace.trace [] trace.done) done (traces_from registers room later (at rest end)) (λ ts. refl)
    trace_complete scope ws rest t (a_failure {p = p} {q = q} {x = x} {kind = kind} h) zero room later is = absurd (omega arith)
    trace_complete scope ws rest t (a_failure {p = p} {q = q} {x = x} {kind = kind} h) (suc n) room later is =
        by_line n scope later ws rest (fail kind) (failed_complete registers scope end p q x kind rest h)
        ∙ ap (λ (k : ℕ). traces_from registers k later (at rest end) >>= λ ts. Ok (in_front (fail kind) ts)) (omega arith)
        ∙ one_joins (trace.trace [] (trace.fail kind)) (fail kind) (traces_from registers room later (at rest end)) (λ ts. refl)
    trace_complete scope ws rest t (a_split {p = p} {q = q} {n = k} {t = u} {ts = us} {ws = vs} e h) zero room later is = absurd (omega arith)
    trace_complete scope ws rest t (a_split {p = p} {q = q} {n = k} {t = u} {ts = us} {ws = vs} e h) (suc n) room later is =
        by_line n scope later ws vs (cases k) (split_complete registers scope end p q k (count us) vs e)
        ∙ ap (λ (j : ℕ). traces_from registers n (replicate j scope ++ later) (at vs end) >>= λ ts. Ok (in_front (cases k) ts)) e
        ∙ ap (λ (x : Answer (List Trace)). x >>= λ ts. Ok (in_front (cases k) ts)) (traces_complete scope vs rest (some u us) h n room later (omega arith))
        ∙ split_joins (some u us) k (traces_from registers room later (at rest end)) e

    traces_complete : (scope : Scope) (ws rest : Words) (ts : Traces) → SpellsTraces registers scope ws ts rest → (n room : ℕ) (later : List Scope) → n ≡ all_size ts + room
        → traces_from registers n (replicate (count ts) scope ++ later) (at ws end) ≡ in_front_of_all (list_of ts) (traces_from registers room later (at rest end))
    traces_complete scope ws rest ts no_more n room later is =
        ap (λ (k : ℕ). traces_from registers k later (at rest end)) (omega arith) ∙ none_joins (traces_from registers room later (at rest end))
    traces_complete scope ws rest ts (one_more {ws' = vs} {t = t} {ts = us} h more) n room later is =
        trace_complete scope ws vs t h n (all_size us + room) (replicate (count us) scope ++ later) (omega arith)
        ∙ ap (in_front_of_all (t ∷ [])) (traces_complete scope vs rest us more (all_size us + room) room later refl)
        ∙ more_joins t (list_of us) (traces_from registers room later (at rest end))

  nothing_more : (room : ℕ) → traces_from registers room [] (at [] end) ≡ Ok []
  unfolding traces_from
  nothing_more zero = refl
  nothing_more (suc room) = refl

  -- all words
  pub words_complete : (ws : Words) (t : Trace) (n : ℕ) → SpellsTrace registers [] ws t [] → size t ≤ n → traces_from registers n ([] ∷ []) (at ws end) ≡ Ok (t ∷ [])
  words_complete ws t n h l =
      trace_complete [] ws [] t h n (n - size t) [] (omega arith) ∙ ap (in_front_of_all (t ∷ [])) (nothing_more (n - size t))

  pub whole_complete : (ws : Words) (t : Trace) → SpellsTrace registers [] ws t [] → size t ≤ MOST → whole registers (at ws end) ≡ Ok t
  unfolding whole
  whole_complete ws t h l = ap (λ (x : Answer (List Trace)). x >>= λ found. Ok (first_of found)) (words_complete ws t MOST h l)

pub spelled_is_read : (registers : List RegDecl) (text : Text) (t : Trace) → SpellsText registers text t → size t ≤ MOST → trace_in registers text ≡ Ok t
unfolding trace_in
spelled_is_read registers text t h l = ap (of_cutting registers text) h.cutting ∙ whole_complete registers (length text) (lexemes text h.tokens) t h.spells l

-- ---- at most one

same_trace : (registers : List RegDecl) (ws : Words) (t u : Trace) → SpellsTrace registers [] ws t [] → SpellsTrace registers [] ws u [] → t ≡ u
same_trace registers ws t u h k =
    let one = words_complete registers 0 ws t (size t + size u) h (omega arith) in
    let other = words_complete registers 0 ws u (size t + size u) k (omega arith) in
    let both : ◌≡◌ {A = Answer (List Trace)} (Ok (t ∷ [])) (Ok (u ∷ [])) = sym one ∙ other in
    ap first_of (same_value {A = List Trace} _ _ both)

pub spelled_once : (registers : List RegDecl) (text : Text) (t u : Trace) → SpellsText registers text t → SpellsText registers text u → t ≡ u
spelled_once registers text t u h k =
    let same : h.tokens ≡ k.tokens = same_tokens h.tokens k.tokens (sym h.cutting ∙ k.cutting) in
    same_trace registers (lexemes text h.tokens) t u h.spells (subst (λ (ts : List Token). SpellsTrace registers [] (lexemes text ts) u []) (sym same) k.spells)
