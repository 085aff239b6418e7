-- The trace of a tree that keeps the rules keeps them.
use Rattle.std.proofs.Common.{◌≡◌, ◌≢◌, ℕ, ◌<◌, ◌≤◌, ◌^◌, List, [], ◌∷◌, length, reverse, map, Option, Some, None, codes, refl, ◌∙◌, sym, ap, subst, arith}
use Rattle.std.specs.Prelude.{⊤, ◌++◌, slice_get}
use Rattle.std.specs.Fmt.{decimal}
use Rattle.std.specs.Option.{option_map}
use Rattle.std.proofs.lemmas.Fmt.{decimal_injective}
use Rattle.std.proofs.lemmas.List.{length-map}
use Rattle.std.proofs.lemmas.Option.{slice_get_within}
use Rattle.bv_bits.specs.declared.Bits.{Bits}
use Rattle.bv_bits.specs.Bits.{IsBits}
use Rattle.lex_core.specs.declared.name.RegDecl.{RegDecl}
use Rattle.sail_syntax.specs.Tree.{Text}
use Rattle.sail_syntax.specs.Program.{Definition, registers_of}
use Rattle.sail_names.specs.Things.{find_thing, things_of}
use Rattle.term_tree.specs.Terms as term
use Rattle.term_tree.specs.Terms.{Tree, IsTyped, height, HIGHEST}
use Rattle.term_arena.specs.Said.{single}
use Rattle.type_rules.specs.Names.{globals_of}
use Rattle.type_rules.specs.IsTyped.{IsTypedProgram}
use Rattle.trace_plain.specs.Trace.{Event, read_reg, write_reg, read_mem, write_mem, assume, need, assume_reg, Trace, trace, End, done, fail, cases, Traces, none, some}
use Rattle.trace_plain.specs.Terms.{OfEvent, OfEvents, OfTrace, OfEnd, OfTraces}
use Rattle.trace_plain.specs.Printable.{HasText, IsPrintableEvent, ArePrintableEvents, IsPrintable, IsPrintableEnd, ArePrintable}
use Rattle.trace_plain.specs.Rules.{var_name, register_width, KeepsRules, bound_behind, KeepRules, TraceKeepsRules, EndKeepsRules, ChildrenKeepRules, IsByTheRules}
use Rattle.sym_rules.specs.Values.{SymValue, SymSetting}
use Rattle.sym_rules.specs.Trees.{SymTree, leaf, naming, on, split, fails, Leaf, with_first, traced}
use Rattle.sym_rules.specs.Operators.{as_bits}
use Rattle.sym_rules.specs.Sym.{sym_called, sym_calls, sym_setting, fresh_path, sym_of, trace_of, register_width as declared_width}
use Rattle.sym_follows.proofs.Typed.{sound_program}
use Rattle.sym_follows.proofs.Things.{things_proper}
use Rattle.sym_shapes.specs.Shapes.{AreAssumptions, IsMadeTerm, TracesKeepRules, TracesHaveMadeTerms, TracesHaveTexts, VariablesDiffer}
use Rattle.sym_shapes.proofs.Over.{IsValueOver}
use Rattle.sym_shapes.proofs.OverTrees.{IsPathOver, KeepsTo, IsLeafOver, IsTreeOver, on_over, told_over, AreRegistersOf}
use Rattle.sym_shapes.proofs.Handled.{things_handled, found_handled, declared_there, registers_wide}
use Rattle.sym_shapes.proofs.OverEval.{literal_says, calls_over, called_over}

-- ---- from trees to traces

module _ (registers : List RegDecl) where
  first_keeps : (e : Event) (t : Trace) (bound : List ℕ) → KeepsRules registers bound e → TraceKeepsRules registers t (bound_behind registers bound e) → TraceKeepsRules registers (with_first e t) bound
  first_keeps e (trace events end) bound h k = (h, k)

  first_terms : (e : Event) (t : Trace) → OfEvent IsMadeTerm e → OfTrace IsMadeTerm t → OfTrace IsMadeTerm (with_first e t)
  first_terms e (trace events end) h k = ((h, k.0), k.1)

  traced_keeps : {L : Type 0} (P : List ℕ → L → Type 0) (t : SymTree L) (bound : List ℕ) → KeepsTo registers P t bound → TraceKeepsRules registers (traced t) bound
  traced_keeps P (leaf l) bound h = tt
  traced_keeps P (naming ms t) bound h = traced_keeps P t bound h
  traced_keeps P (on e t) bound h = first_keeps e (traced t) bound h.0 (traced_keeps P t (bound_behind registers bound e) h.2)
  traced_keeps P (split a b) bound h = (traced_keeps P a bound h.0, (traced_keeps P b bound h.1, tt))
  traced_keeps P (fails k) bound h = tt

  traced_terms : {L : Type 0} (P : List ℕ → L → Type 0) (t : SymTree L) (bound : List ℕ) → KeepsTo registers P t bound → OfTrace IsMadeTerm (traced t)
  traced_terms P (leaf l) bound h = (tt, tt)
  traced_terms P (naming ms t) bound h = traced_terms P t bound h
  traced_terms P (on e t) bound h = first_terms e (traced t) h.1 (traced_terms P t (bound_behind registers bound e) h.2)
  traced_terms P (split a b) bound h = (tt, (traced_terms P a bound h.0, (traced_terms P b bound h.1, tt)))
  traced_terms P (fails k) bound h = (tt, tt)

  -- ---- texts of traces

  register_there : (r w : ℕ) → register_width registers r ≡ Some w → r < length registers
  register_there r w e = step (slice_get registers r) refl e
    where
      step : (o : Option RegDecl) → slice_get registers r ≡ o → option_map (λ (d : RegDecl). d.width) o ≡ Some w → r < length registers
      step (Some d) q e = slice_get_within registers r d q
      step None q e = absurd cc

  term_text : (t : Tree) → IsMadeTerm t → height t ≤ HIGHEST → HasText t
  term_text t h l = record { term = record { typed = h.typed; low = l }; no_division = h.no_division }

  event_text : (bound : List ℕ) (e : Event) → KeepsRules registers bound e → OfEvent IsMadeTerm e → OfEvent (λ t. height t ≤ HIGHEST) e → IsPrintableEvent (length registers) e
  event_text bound (read_reg r var) k h l = register_there r k.width k.register
  event_text bound (write_reg r t) k h l = (register_there r k.width k.register, term_text t h l)
  event_text bound (read_mem var at n) k h l = term_text at h l
  event_text bound (write_mem at t n) k h l = (term_text at h.0 l.0, term_text t h.1 l.1)
  event_text bound (assume t) k h l = term_text t h l
  event_text bound (need t) k h l = term_text t h l
  event_text bound (assume_reg r value) k h l = register_there r value.width k.0

  events_text : (rest : List ℕ → Type 0) (C : Type 0) → ((bound : List ℕ) → rest bound → C) → (bound : List ℕ) (es : List Event) → KeepRules registers rest bound es → OfEvents IsMadeTerm es → OfEvents (λ t. height t ≤ HIGHEST) es
      → ArePrintableEvents (length registers) es × C
  events_text rest C each bound [] k h l = (tt, each bound k)
  events_text rest C each bound (e ∷ es) k h l =
      let more = events_text rest C each (bound_behind registers bound e) es k.1 h.1 l.1 in ((event_text bound e k.0 h.0 l.0, more.0), more.1)

  mutual
    trace_text : (t : Trace) (bound : List ℕ) → TraceKeepsRules registers t bound → OfTrace IsMadeTerm t → OfTrace (λ t. height t ≤ HIGHEST) t → IsPrintable (length registers) t
    trace_text (trace events end) bound k h l = events_text (EndKeepsRules registers end) (IsPrintableEnd (length registers) end) (λ b q. end_text end b q h.1 l.1) bound events k h.0 l.0

    end_text : (end : End) (bound : List ℕ) → EndKeepsRules registers end bound → OfEnd IsMadeTerm end → OfEnd (λ t. height t ≤ HIGHEST) end → IsPrintableEnd (length registers) end
    end_text done bound k h l = tt
    end_text (fail kind) bound k h l = tt
    end_text (cases none) bound k h l = tt
    end_text (cases (some t ts)) bound k h l = (trace_text t bound k.0 h.0 l.0, children_text ts bound k.1 h.1 l.1)

    children_text : (ts : Traces) (bound : List ℕ) → ChildrenKeepRules registers ts bound → OfTraces IsMadeTerm ts → OfTraces (λ t. height t ≤ HIGHEST) ts → ArePrintable (length registers) ts
    children_text none bound k h l = tt
    children_text (some t ts) bound k h l = (trace_text t bound k.0 h.0 l.0, children_text ts bound k.1 h.1 l.1)

-- ---- the trace of a word

module _ (defs : List Definition) (given : List (ℕ × Bits)) (f : Text) (b : Bits) (program : IsTypedProgram defs) (assumed : AreAssumptions (registers_of defs) given) (bits : IsBits b) where
  abbrev here : SymSetting
  here = sym_setting defs given

  registers_are : AreRegistersOf (registers_of defs) here
  registers_are = record {
    there = λ r l. declared_there (registers_of defs) r (omega (arith, l, length-map (registers_of defs) declared_width));
    wide = λ r l. registers_wide (globals_of defs) defs [] 0 program.definitions r (omega (arith, l, length-map (registers_of defs) declared_width));
    given = assumed;
  }

  fresh_over : IsPathOver [] fresh_path
  fresh_over = record { locals = tt; known = λ r t e. absurd cc; counted = refl }

  pub word_over : IsTreeOver (registers_of defs) IsValueOver [] (sym_of defs given f b)
  word_over =
      let proper = things_proper defs in
      let handled = things_handled defs in
      let keep = calls_over (registers_of defs) here registers_are proper handled (reverse defs) (sound_program defs program) in
      on_over (registers_of defs) {V = IsValueOver} (told_over (registers_of defs) {V = IsValueOver} {p = fresh_path} (as_bits (single (term.lit b))) fresh_over (literal_says [] b bits))
      (λ more m x path value. called_over (registers_of defs) here registers_are proper handled (sym_calls here (reverse defs)) keep (find_thing f (things_of defs)) (m.value ∷ []) (found_handled f (things_of defs) handled) path (value, tt))

-- ---- the laws

pub traces_keep_rules : TracesKeepRules
traces_keep_rules defs given f b program assumed bits =
    traced_keeps (registers_of defs) (IsLeafOver IsValueOver []) (sym_of defs given f b) [] ((word_over defs given f b program assumed bits).is)

pub traces_have_made_terms : TracesHaveMadeTerms
traces_have_made_terms defs given f b program assumed bits =
    traced_terms (registers_of defs) (IsLeafOver IsValueOver []) (sym_of defs given f b) [] ((word_over defs given f b program assumed bits).is)

pub traces_have_texts : TracesHaveTexts
traces_have_texts defs given f b program assumed bits low =
    trace_text (registers_of defs) (trace_of defs given f b) [] (traces_keep_rules defs given f b program assumed bits) (traces_have_made_terms defs given f b program assumed bits) low

pub variables_differ : VariablesDiffer
variables_differ m n h k differ same = differ (decimal_injective m n h k (without_v (decimal m) (decimal n) same))
  where
    without_v : (xs ys : List ℕ) → codes "v" ++ xs ≡ codes "v" ++ ys → xs ≡ ys
    without_v xs ys e = cc
