-- The text of a trace is cut into its words.
use Rattle.std.proofs.Common.{◌≡◌, ℕ, zero, suc, ◌+◌, ◌*◌, ◌^◌, ◌≤◌, ◌<◌, Bool, true, List, [], ◌∷◌, ◌++◌, length, Option, Some, None, refl, sym, ap, subst, ◌∙◌, append_assoc, arith}
use Rattle.std.specs.Prelude.{codes, slice_get, nat_lt, nat_le, ◌||◌, ◌&&◌}
use Rattle.std.specs.Fmt.{decimal}
use Rattle.std.specs.Char.{is_ascii_alphanumeric, is_ascii_digit}
use Rattle.std.specs.List.{list_all}
use Rattle.std.proofs.lemmas.Bool.{and_parts, and_from}
use Rattle.std.proofs.lemmas.List.{length-append}
use Rattle.std.proofs.lemmas.Bool.Decides.{nat_tests}
use Rattle.bv_bits.specs.Bits.{IsBits}
use Rattle.lex_core.specs.declared.name.RegDecl.{RegDecl}
use Rattle.lex_core.specs.declared.token.Kind.TheVariants as kind
use Rattle.lex_core.specs.Classes.{is_underscore}
use Rattle.lex_core.specs.Forms.{has_form}
use Rattle.bit_text.specs.Texts.{literal_text}
use Rattle.bit_text.proofs.TokenLemmas.{number_form}
use Rattle.term_tree.specs.Terms.{Text, Tree, lit, var, one, two, three, sel}
use Rattle.term_tree.specs.Variables.{HasVariables}
use Rattle.term_print.specs.Words.{Word, name, number, literal}
use Rattle.term_print.specs.Cutting.{IsCutAs}
use Rattle.term_print.specs.Printing.{term_text}
use Rattle.term_print.specs.PrintedLaws.{HasNames}
use Rattle.term_print.specs.TermWords.{term_words}
use Rattle.term_print.proofs.CutLemmas.{IsTail, joined, no_tail, spaced}
use Rattle.term_print.proofs.PrintedLemmas.{term_cut}
use Rattle.term_print.proofs.TokenTextLemmas.{number_cut, literal_cut, name_cut}
use Rattle.trace_plain.specs.declared.trace.FailKind.{FailKind}
use Rattle.trace_plain.specs.declared.trace.FailKind.TheVariants as failure
use Rattle.trace_plain.specs.Printable.{AreRegisters, HasText, IsPrintableEvent, ArePrintableEvents, IsPrintable, IsPrintableEnd, ArePrintable}
use Rattle.trace_plain.specs.Rules.{var_name, IsByteCount, register_width, IsBound, Fits, bound_behind, KeepsRules, KeepRules, TraceKeepsRules, EndKeepsRules, ChildrenKeepRules}
use Rattle.trace_plain.specs.Trace.{Event, read_reg, write_reg, read_mem, write_mem, assume, need, assume_reg, Trace, trace, End, done, fail, cases, Traces, none, some, count, size, end_size, all_size}
use Rattle.trace_print.specs.Printing.{register_text, var_text, number_text, failure_text, cases_text, event_text, events_text, trace_text, end_text, children_text}
use Rattle.trace_read.specs.declared.reading.TheConstants.{MOST}
use Rattle.trace_round_trip.specs.TraceWords.{register_name, failure_name, event_words, events_words, trace_words, end_words, children_words}
use Rattle.trace_round_trip.proofs.LineCutLemmas.{IsCutAnyway, nothing_cut, two_cut, lined, line_cut, last_word}

-- ---- names

-- what goes on with a name
abbrev continues : ℕ → Bool
continues b = is_ascii_alphanumeric b || is_underscore b

digit_continues : (b : ℕ) → is_ascii_digit b ≡ true → continues b ≡ true
digit_continues b h = grind (arith, nat_tests)

digits_continue : (z : Text) → list_all is_ascii_digit z ≡ true → list_all continues z ≡ true
digits_continue [] h = refl
digits_continue (b ∷ z) h =
    let parts = and_parts (is_ascii_digit b) (list_all is_ascii_digit z) h in
    and_from (continues b) (list_all continues z) (digit_continues b parts.0) (digits_continue z parts.1)

digits_of : (z : Text) → has_form kind.Number z ≡ true → list_all is_ascii_digit z ≡ true
unfolding has_form
digits_of z h =
    (and_parts (list_all is_ascii_digit z) (nat_lt 0 (length z)) (and_parts (list_all is_ascii_digit z && nat_lt 0 (length z)) (nat_le (length z) 9) h).0).0

-- a variable has a name
pub var_form : (n : ℕ) → n ≤ MOST → has_form kind.Name (var_name n) ≡ true
unfolding has_form
var_form n l = digits_continue (decimal n) (digits_of (decimal n) (number_form n (omega arith)))

within : (b : List ℕ) (k w : ℕ) → slice_get b k ≡ Some w → k < length b
within [] k w e = absurd (cc)
within (v ∷ b) zero w e = omega arith
within (v ∷ b) (suc k) w e = omega (arith, within b k w e)

-- the variables of a term over bound ones have names
pub all_named : (b : List ℕ) (t : Tree) → length b ≤ MOST → HasVariables (IsBound b) (λ f. ⊥) t → HasNames t
all_named b (lit v) l h = tt
all_named b (var x w) l h =
    ap (has_form kind.Name) h.name ∙ var_form h.number (omega (arith, within b h.number w h.width))
all_named b (one op t) l h = all_named b t l h
all_named b (two op t u) l h = (all_named b t l h.0, all_named b u l h.1)
all_named b (three op t u v) l h = (all_named b t l h.0, all_named b u l h.1, all_named b v l h.2)
all_named b (sel f i) l h = absurd h.0

pub register_form : (registers : List RegDecl) (r : ℕ) → AreRegisters registers → r < length registers → has_form kind.Name (register_name registers r) ≡ true
register_form registers r fine l = fine.names r (record { name = []; width = 0 }) l

pub few_bytes : (n : ℕ) → IsByteCount n → n < 10 ^ 9
few_bytes n (zero, l, e) = omega (arith, e)
few_bytes n (suc zero, l, e) = omega (arith, e)
few_bytes n (suc (suc zero), l, e) = omega (arith, e)
few_bytes n (suc (suc (suc zero)), l, e) = omega (arith, e)
few_bytes n (suc (suc (suc (suc zero))), l, e) = omega (arith, e)
few_bytes n (suc (suc (suc (suc (suc k)))), l, e) = absurd (omega arith)

-- ---- words

-- a first word that is a name
begun : (x : Text) → has_form kind.Name x ≡ true → (w : Text) (ws : List Word) → IsTail w ws → IsCutAs (x ++ w) (name x ∷ ws)
begun x h w ws k = joined x w (name x ∷ []) ws (name_cut x h) k

module _ (registers : List RegDecl) (fine : AreRegisters registers) (b : List ℕ) (room : length b ≤ MOST) where
  -- a term over bound variables
  bound_cut : (width : ℕ) (t : Tree) → Fits b width t → HasText t → IsCutAs (term_text t) (term_words t)
  bound_cut width t fits text = term_cut t text.term.typed text.no_division (all_named b t room fits.variables)

  register_tail : (r : ℕ) (w : Text) (ws : List Word) → r < length registers → IsTail w ws → IsTail (register_text registers r ++ w) (name (register_name registers r) ∷ ws)
  register_tail r w ws l h = spaced (register_name registers r) w (name (register_name registers r) ∷ []) ws (name_cut (register_name registers r) (register_form registers r fine l)) h

  var_tail : (x : ℕ) (w : Text) (ws : List Word) → x ≡ length b → IsTail w ws → IsTail (var_text x ++ w) (name (var_name x) ∷ ws)
  var_tail x w ws e h = spaced (var_name x) w (name (var_name x) ∷ []) ws (name_cut (var_name x) (var_form x (omega arith))) h

  count_tail : (n : ℕ) → IsByteCount n → IsTail (number_text n) (number n ∷ [])
  count_tail n h = last_word (decimal n) (number n ∷ []) (number_cut n (few_bytes n h))

  -- an event
  pub event_cut : (e : Event) → KeepsRules registers b e → IsPrintableEvent (length registers) e → IsCutAs (event_text registers e) (event_words registers e)
  unfolding has_form
  event_cut (read_reg r x) keeps print =
      begun (codes "read_reg") refl (register_text registers r ++ var_text x) (name (register_name registers r) ∷ name (var_name x) ∷ [])
      (register_tail r (var_text x) (name (var_name x) ∷ []) print (last_word (var_name x) (name (var_name x) ∷ []) (name_cut (var_name x) (var_form x (omega (arith, keeps.next))))))
  event_cut (write_reg r t) keeps print =
      begun (codes "write_reg") refl (register_text registers r ++ 32 ∷ term_text t) (name (register_name registers r) ∷ term_words t)
      (register_tail r (32 ∷ term_text t) (term_words t) print.0 (last_word (term_text t) (term_words t) (bound_cut keeps.width t keeps.term print.1)))
  event_cut (read_mem x at n) keeps print =
      begun (codes "read_mem") refl (var_text x ++ ((32 ∷ term_text at) ++ number_text n)) (name (var_name x) ∷ (term_words at ++ number n ∷ []))
      (var_tail x ((32 ∷ term_text at) ++ number_text n) (term_words at ++ number n ∷ []) keeps.0
      (spaced (term_text at) (number_text n) (term_words at) (number n ∷ []) (bound_cut 64 at keeps.1 print) (count_tail n keeps.2)))
  event_cut (write_mem at t n) keeps print =
      begun (codes "write_mem") refl ((32 ∷ term_text at) ++ ((32 ∷ term_text t) ++ number_text n)) (term_words at ++ (term_words t ++ number n ∷ []))
      (spaced (term_text at) ((32 ∷ term_text t) ++ number_text n) (term_words at) (term_words t ++ number n ∷ []) (bound_cut 64 at keeps.0 print.0)
      (spaced (term_text t) (number_text n) (term_words t) (number n ∷ []) (bound_cut (8 * n) t keeps.1 print.1) (count_tail n keeps.2)))
  event_cut (assume t) keeps print = begun (codes "assume") refl (32 ∷ term_text t) (term_words t) (last_word (term_text t) (term_words t) (bound_cut 1 t keeps print))
  event_cut (need t) keeps print = begun (codes "need") refl (32 ∷ term_text t) (term_words t) (last_word (term_text t) (term_words t) (bound_cut 1 t keeps print))
  event_cut (assume_reg r value) keeps print =
      begun (codes "assume_reg") refl (register_text registers r ++ 32 ∷ literal_text value) (name (register_name registers r) ∷ literal value ∷ [])
      (register_tail r (32 ∷ literal_text value) (literal value ∷ []) print (last_word (literal_text value) (literal value ∷ []) (literal_cut value keeps.1)))

-- ---- ends

failure_cut : (kind : FailKind) → IsTail (failure_text kind) (name (failure_name kind) ∷ [])
unfolding has_form
failure_cut failure.Match = last_word (codes "match") (name (codes "match") ∷ []) (name_cut (codes "match") refl)
failure_cut failure.Assert = last_word (codes "assert") (name (codes "assert") ∷ []) (name_cut (codes "assert") refl)
failure_cut failure.Exit = last_word (codes "exit") (name (codes "exit") ∷ []) (name_cut (codes "exit") refl)
failure_cut failure.Unsupported = last_word (codes "unsupported") (name (codes "unsupported") ∷ []) (name_cut (codes "unsupported") refl)
failure_cut failure.AssumedWritten = last_word (codes "assumed_written") (name (codes "assumed_written") ∷ []) (name_cut (codes "assumed_written") refl)

done_cut : IsCutAnyway (codes "done\n") (name (codes "done") ∷ [])
unfolding has_form
done_cut = line_cut (codes "done") (name (codes "done") ∷ []) (name_cut (codes "done") refl)

fail_cut : (kind : FailKind) → IsCutAnyway (codes "fail" ++ (failure_text kind ++ 10 ∷ [])) (name (codes "fail") ∷ name (failure_name kind) ∷ [])
unfolding has_form
fail_cut kind =
    subst (λ (z : Text). IsCutAnyway z (name (codes "fail") ∷ name (failure_name kind) ∷ [])) (append_assoc (codes "fail") (failure_text kind) (10 ∷ []))
    (line_cut (codes "fail" ++ failure_text kind) (name (codes "fail") ∷ name (failure_name kind) ∷ [])
    (begun (codes "fail") refl (failure_text kind) (name (failure_name kind) ∷ []) (failure_cut kind)))

cases_cut : (n : ℕ) (w : Text) (ws : List Word) → n < 10 ^ 9 → IsCutAnyway w ws → IsCutAnyway (cases_text n ++ w) (name (codes "cases") ∷ number n ∷ ws)
unfolding has_form
cases_cut n w ws l h =
    let line : IsCutAs (codes "cases" ++ number_text n) (name (codes "cases") ∷ number n ∷ []) =
    begun (codes "cases") refl (number_text n) (number n ∷ []) (last_word (decimal n) (number n ∷ []) (number_cut n l)) in
    subst (λ (z : Text). IsCutAnyway z (name (codes "cases") ∷ number n ∷ ws)) (same (codes "cases") (number_text n) w)
    (lined (codes "cases" ++ number_text n) w (name (codes "cases") ∷ number n ∷ []) ws line h)
  where
    same : (x y z : Text) → (x ++ y) ++ 10 ∷ z ≡ (x ++ (y ++ 10 ∷ [])) ++ z
    same x y z = append_assoc x y (10 ∷ z) ∙ ap (λ (u : Text). x ++ u) (sym (append_assoc y (10 ∷ []) z)) ∙ sym (append_assoc x (y ++ 10 ∷ []) z)

-- ---- traces

-- the width that a register has, if there is one
abbrev of_width : Option ℕ → List ℕ
of_width None = []
of_width (Some w) = w ∷ []

-- at most one variable is bound by an event
one_width : (b : List ℕ) (o : Option ℕ) → length (b ++ of_width o) ≤ suc (length b)
one_width b None = omega (arith, length-append b [])
one_width b (Some w) = omega (arith, length-append b (w ∷ []))

pub behind_length : (registers : List RegDecl) (b : List ℕ) (e : Event) → length (bound_behind registers b e) ≤ suc (length b)
behind_length registers b (read_reg r x) = one_width b (register_width registers r)
behind_length registers b (write_reg r t) = omega arith
behind_length registers b (read_mem x at n) = omega (arith, length-append b (8 * n ∷ []))
behind_length registers b (write_mem at t n) = omega arith
behind_length registers b (assume t) = omega arith
behind_length registers b (need t) = omega arith
behind_length registers b (assume_reg r value) = omega arith

-- each trace has an end
end_some : (end : End) → 1 ≤ end_size end
end_some done = omega arith
end_some (fail kind) = omega arith
end_some (cases ts) = omega arith

trace_some : (t : Trace) → 1 ≤ size t
trace_some (trace es end) = omega (arith, end_some end)

pub count_size : (ts : Traces) → count ts ≤ all_size ts
count_size none = omega arith
count_size (some t ts) = omega (arith, trace_some t, count_size ts)

module _ (registers : List RegDecl) (fine : AreRegisters registers) where
  -- events, and then an end, however it is
  events_cut : (end : End) → ((c : List ℕ) → length c + end_size end ≤ MOST → EndKeepsRules registers end c → IsCutAnyway (end_text registers end) (end_words registers end))
      → (b : List ℕ) (es : List Event) → length b + (length es + end_size end) ≤ MOST → KeepRules registers (EndKeepsRules registers end) b es → ArePrintableEvents (length registers) es
      → IsCutAnyway (events_text registers es ++ end_text registers end) (events_words registers es ++ end_words registers end)
  events_cut end ending b [] room keeps print = ending b (omega arith) keeps
  events_cut end ending b (e ∷ es) room keeps print =
      let own = event_cut registers fine b (omega arith) e keeps.0 print.0 in
      let more = events_cut end ending (bound_behind registers b e) es (omega (arith, behind_length registers b e)) keeps.1 print.1 in
      subst (λ (z : Text). IsCutAnyway z ((event_words registers e ++ events_words registers es) ++ end_words registers end)) (sym (append_assoc (event_text registers e) (10 ∷ events_text registers es) (end_text registers end)))
      (subst (λ (ws : List Word). IsCutAnyway (event_text registers e ++ 10 ∷ (events_text registers es ++ end_text registers end)) ws) (sym (append_assoc (event_words registers e) (events_words registers es) (end_words registers end)))
      (lined (event_text registers e) (events_text registers es ++ end_text registers end) (event_words registers e) (events_words registers es ++ end_words registers end) own more))

  mutual
    pub trace_cut : (b : List ℕ) (t : Trace) → length b + size t ≤ MOST → TraceKeepsRules registers t b → IsPrintable (length registers) t → IsCutAnyway (trace_text registers t) (trace_words registers t)
    trace_cut b (trace es end) room keeps print = events_cut end (λ c few k. end_cut c end few k print.1) b es room keeps print.0

    end_cut : (b : List ℕ) (end : End) → length b + end_size end ≤ MOST → EndKeepsRules registers end b → IsPrintableEnd (length registers) end → IsCutAnyway (end_text registers end) (end_words registers end)
    end_cut b done room keeps print = done_cut
    end_cut b (fail kind) room keeps print = fail_cut kind
    end_cut b (cases none) room keeps print = absurd keeps
    end_cut b (cases (some t ts)) room keeps print =
        cases_cut (count (some t ts)) (children_text registers (some t ts)) (children_words registers (some t ts)) (omega (arith, count_size (some t ts)))
        (children_cut b (some t ts) (omega arith) keeps print)

    children_cut : (b : List ℕ) (ts : Traces) → length b + all_size ts ≤ MOST → ChildrenKeepRules registers ts b → ArePrintable (length registers) ts → IsCutAnyway (children_text registers ts) (children_words registers ts)
    children_cut b none room keeps print = nothing_cut
    children_cut b (some t ts) room keeps print =
        two_cut (trace_text registers t) (children_text registers ts) (trace_words registers t) (children_words registers ts) (trace_cut b t (omega arith) keeps.0 print.0) (children_cut b ts (omega arith) keeps.1 print.1)
