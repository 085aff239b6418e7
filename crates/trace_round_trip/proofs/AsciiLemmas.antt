-- The text of a trace is ASCII, and so UTF-8.
use Rattle.std.proofs.Common.{◌≡◌, ℕ, ◌+◌, ◌*◌, ◌≤◌, ◌<◌, List, [], ◌∷◌, ◌++◌, length, true, refl, sym, subst, append_assoc, arith}
use Rattle.std.specs.Prelude.{codes}
use Rattle.std.specs.Fmt.{decimal}
use Rattle.std.specs.Str.{IsAscii}
use Rattle.std.proofs.lemmas.Fmt.{IsAscii-decimal}
use Rattle.std.proofs.lemmas.Str.{IsAscii-append}
use Rattle.std.proofs.lemmas.Str.Ascii.{IsAscii-nil, IsAscii-cons}
use Rattle.bit_text.proofs.AsciiLemmas.{literal_ascii, name_ascii}
use Rattle.lex_core.specs.declared.name.RegDecl.{RegDecl}
use Rattle.lex_core.specs.declared.token.Kind.TheVariants as kind
use Rattle.lex_core.specs.Forms.{has_form}
use Rattle.bit_text.specs.Texts.{literal_text}
use Rattle.term_tree.specs.Terms.{Text, Tree}
use Rattle.term_print.specs.Printing.{term_text}
use Rattle.term_print.proofs.AsciiLemmas.{term_ascii}
use Rattle.trace_plain.specs.declared.trace.FailKind.{FailKind}
use Rattle.trace_plain.specs.declared.trace.FailKind.TheVariants as failure
use Rattle.trace_plain.specs.Printable.{AreRegisters, HasText, IsPrintableEvent, ArePrintableEvents, IsPrintable, IsPrintableEnd, ArePrintable}
use Rattle.trace_plain.specs.Rules.{var_name, IsByteCount, Fits, bound_behind, KeepsRules, KeepRules, TraceKeepsRules, EndKeepsRules, ChildrenKeepRules}
use Rattle.trace_plain.specs.Trace.{Event, read_reg, write_reg, read_mem, write_mem, assume, need, assume_reg, Trace, trace, End, done, fail, cases, Traces, none, some, count, size, end_size, all_size}
use Rattle.trace_print.specs.Printing.{register_text, var_text, number_text, failure_text, cases_text, event_text, events_text, trace_text, end_text, children_text}
use Rattle.trace_read.specs.declared.reading.TheConstants.{MOST}
use Rattle.trace_round_trip.specs.TraceWords.{register_name}
use Rattle.trace_round_trip.proofs.TraceCutLemmas.{var_form, all_named, register_form, few_bytes, behind_length, count_size}

spaced : (z : Text) → IsAscii z → IsAscii (32 ∷ z)
spaced z h = IsAscii-cons 32 z (omega arith) h

-- a first word, and what stands behind it
begun : (x : Text) (z : Text) → has_form kind.Name x ≡ true → IsAscii z → IsAscii (x ++ z)
begun x z h k = IsAscii-append x z (name_ascii x h) k

module _ (registers : List RegDecl) (fine : AreRegisters registers) (b : List ℕ) (room : length b ≤ MOST) where
  term_plain : (width : ℕ) (t : Tree) → Fits b width t → HasText t → IsAscii (32 ∷ term_text t)
  term_plain width t fits text = spaced (term_text t) (term_ascii t text.term.typed text.no_division (all_named b t room fits.variables))

  register_plain : (r : ℕ) → r < length registers → IsAscii (register_text registers r)
  register_plain r l = spaced (register_name registers r) (name_ascii (register_name registers r) (register_form registers r fine l))

  var_plain : (x : ℕ) → x ≡ length b → IsAscii (var_text x)
  var_plain x e = spaced (var_name x) (name_ascii (var_name x) (var_form x (omega arith)))

  number_plain : (n : ℕ) → IsByteCount n → IsAscii (number_text n)
  number_plain n h = spaced (decimal n) (IsAscii-decimal n (omega (arith, few_bytes n h)))

  event_ascii : (e : Event) → KeepsRules registers b e → IsPrintableEvent (length registers) e → IsAscii (event_text registers e)
  unfolding has_form
  event_ascii (read_reg r x) keeps print = begun (codes "read_reg") (register_text registers r ++ var_text x) refl (IsAscii-append (register_text registers r) (var_text x) (register_plain r print) (var_plain x keeps.next))
  event_ascii (write_reg r t) keeps print = begun (codes "write_reg") (register_text registers r ++ 32 ∷ term_text t) refl (IsAscii-append (register_text registers r) (32 ∷ term_text t) (register_plain r print.0) (term_plain keeps.width t keeps.term print.1))
  event_ascii (read_mem x at n) keeps print =
      begun (codes "read_mem") (var_text x ++ ((32 ∷ term_text at) ++ number_text n)) refl (IsAscii-append (var_text x) ((32 ∷ term_text at) ++ number_text n) (var_plain x keeps.0) (IsAscii-append (32 ∷ term_text at) (number_text n) (term_plain 64 at keeps.1 print) (number_plain n keeps.2)))
  event_ascii (write_mem at t n) keeps print =
      begun (codes "write_mem") ((32 ∷ term_text at) ++ ((32 ∷ term_text t) ++ number_text n)) refl (IsAscii-append (32 ∷ term_text at) ((32 ∷ term_text t) ++ number_text n) (term_plain 64 at keeps.0 print.0) (IsAscii-append (32 ∷ term_text t) (number_text n) (term_plain (8 * n) t keeps.1 print.1) (number_plain n keeps.2)))
  event_ascii (assume t) keeps print = begun (codes "assume") (32 ∷ term_text t) refl (term_plain 1 t keeps print)
  event_ascii (need t) keeps print = begun (codes "need") (32 ∷ term_text t) refl (term_plain 1 t keeps print)
  event_ascii (assume_reg r value) keeps print =
      begun (codes "assume_reg") (register_text registers r ++ 32 ∷ literal_text value) refl (IsAscii-append (register_text registers r) (32 ∷ literal_text value) (register_plain r print) (spaced (literal_text value) (literal_ascii value)))

newline : IsAscii (10 ∷ [])
newline = IsAscii-cons 10 [] (omega arith) IsAscii-nil

failure_plain : (kind : FailKind) → IsAscii (failure_text kind)
unfolding has_form
failure_plain failure.Match = spaced (codes "match") (name_ascii (codes "match") refl)
failure_plain failure.Assert = spaced (codes "assert") (name_ascii (codes "assert") refl)
failure_plain failure.Exit = spaced (codes "exit") (name_ascii (codes "exit") refl)
failure_plain failure.Unsupported = spaced (codes "unsupported") (name_ascii (codes "unsupported") refl)
failure_plain failure.AssumedWritten = spaced (codes "assumed_written") (name_ascii (codes "assumed_written") refl)

cases_ascii : (n : ℕ) → n ≤ MOST → IsAscii (cases_text n)
unfolding has_form
cases_ascii n l = begun (codes "cases") (number_text n ++ 10 ∷ []) refl (IsAscii-append (number_text n) (10 ∷ []) (spaced (decimal n) (IsAscii-decimal n (omega arith))) newline)

-- children of an end keep the rules
children_keep : (registers : List RegDecl) (b : List ℕ) (ts : Traces) → EndKeepsRules registers (cases ts) b → ChildrenKeepRules registers ts b
children_keep registers b none h = absurd h
children_keep registers b (some t ts) h = h

module _ (registers : List RegDecl) (fine : AreRegisters registers) where
  -- events, and then an end, however it is
  events_ascii : (end : End) → ((c : List ℕ) → length c + end_size end ≤ MOST → EndKeepsRules registers end c → IsAscii (end_text registers end))
      → (b : List ℕ) (es : List Event) → length b + (length es + end_size end) ≤ MOST → KeepRules registers (EndKeepsRules registers end) b es → ArePrintableEvents (length registers) es
      → IsAscii (events_text registers es ++ end_text registers end)
  events_ascii end ending b [] room keeps print = ending b (omega arith) keeps
  events_ascii end ending b (e ∷ es) room keeps print =
      let own = event_ascii registers fine b (omega arith) e keeps.0 print.0 in
      let more = events_ascii end ending (bound_behind registers b e) es (omega (arith, behind_length registers b e)) keeps.1 print.1 in
      subst IsAscii (sym (append_assoc (event_text registers e) (10 ∷ events_text registers es) (end_text registers end)))
      (IsAscii-append (event_text registers e) (10 ∷ (events_text registers es ++ end_text registers end)) own (IsAscii-cons 10 (events_text registers es ++ end_text registers end) (omega arith) more))

  mutual
    unfolding has_form

    pub trace_ascii : (b : List ℕ) (t : Trace) → length b + size t ≤ MOST → TraceKeepsRules registers t b → IsPrintable (length registers) t → IsAscii (trace_text registers t)
    trace_ascii b (trace es end) room keeps print = events_ascii end (λ c few k. end_ascii c end few k print.1) b es room keeps print.0

    end_ascii : (b : List ℕ) (end : End) → length b + end_size end ≤ MOST → EndKeepsRules registers end b → IsPrintableEnd (length registers) end → IsAscii (end_text registers end)
    end_ascii b done room keeps print = begun (codes "done") (10 ∷ []) refl newline
    end_ascii b (fail kind) room keeps print = begun (codes "fail") (failure_text kind ++ 10 ∷ []) refl (IsAscii-append (failure_text kind) (10 ∷ []) (failure_plain kind) newline)
    end_ascii b (cases ts) room keeps print = IsAscii-append (cases_text (count ts)) (children_text registers ts) (cases_ascii (count ts) (omega (arith, count_size ts))) (children_ascii b ts (omega arith) (children_keep registers b ts keeps) print)

    children_ascii : (b : List ℕ) (ts : Traces) → length b + all_size ts ≤ MOST → ChildrenKeepRules registers ts b → ArePrintable (length registers) ts → IsAscii (children_text registers ts)
    children_ascii b none room keeps print = IsAscii-nil
    children_ascii b (some t ts) room keeps print =
        IsAscii-append (trace_text registers t) (children_text registers ts) (trace_ascii b t (omega arith) keeps.0 print.0) (children_ascii b ts (omega arith) keeps.1 print.1)
