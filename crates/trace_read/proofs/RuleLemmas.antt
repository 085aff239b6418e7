-- What is spelled is by the rules.
use Rattle.std.proofs.Common.{◌≡◌, ℕ, zero, suc, ◌+◌, ◌*◌, ◌≤◌, ◌<◌, List, [], ◌∷◌, ◌++◌, length, Option, Some, None, Ok, refl, sym, ap, subst, ◌∙◌, arith}
use Rattle.std.specs.Prelude.{⊤, All, slice_get, slice_index_or}
use Rattle.bv_bits.specs.Bits.{IsBits, IsWidth}
use Rattle.lex_core.specs.declared.name.RegDecl.{RegDecl}
use Rattle.lex_core.specs.declared.token.Token.{Token}
use Rattle.lex_core.specs.Lexing.{cut}
use Rattle.term_tree.specs.Terms.{Text, Tree, width_of, IsTerm}
use Rattle.term_tree.specs.Divisions.{HasNoDivision}
use Rattle.term_make.specs.Normal.{IsNormal}
use Rattle.term_print.specs.Words.{literal, lexemes}
use Rattle.term_words.specs.Scopes.{Scope}
use Rattle.term_read.specs.ReadingView.{AreWidths}
use Rattle.term_read.specs.Spelling.{Words, Spells}
use Rattle.term_read.proofs.NormalSpelledLemmas.{spelled_normal}
use Rattle.term_read.proofs.ReadDivisionLemmas.{spelled_whole}
use Rattle.term_read.proofs.SpelledPartLemmas.{OfWords}
use Rattle.term_round_trip.proofs.DeclaredLemmas.{spelled_declared}
use Rattle.term_round_trip.proofs.FormedLemmas.{IsFormed, tokens_formed}
use Rattle.term_round_trip.proofs.ReadTermLemmas.{spelled_term}
use Rattle.trace_plain.specs.Printable.{AreRegisters, HasText, IsPrintableEvent, ArePrintableEvents, IsPrintable, IsPrintableEnd, ArePrintable}
use Rattle.trace_plain.specs.Rules.{var_name, IsByteCount, register_width, IsBound, Fits, FitsRegister, Binds, bound_behind, KeepsRules, KeepRules, TraceKeepsRules, EndKeepsRules, ChildrenKeepRules, IsByTheRules}
use Rattle.trace_plain.specs.Trace as trace
use Rattle.trace_plain.specs.Trace.{Event, read_reg, write_reg, read_mem, write_mem, assume, need, assume_reg, Trace, End, Traces, none, some}
use Rattle.trace_read.specs.Paths.{width_at, bound, scope_behind}
use Rattle.trace_read.specs.Spelling.{SpellsTerm, SpellsEvent, reads_register, writes_register, reads_memory, writes_memory, assumes, needs, assumes_register, SpellsTrace, an_event, a_done, a_failure, a_split, SpellsTraces, no_more, one_more, SpellsText}
use Rattle.trace_read.specs.Words.{register_number}
use Rattle.trace_plain.specs.Terms.{OfEvent, OfEvents, OfTrace, OfEnd, OfTraces}
use Rattle.trace_read.proofs.BoundLemmas.{scope_of, as_many, bound_is, KnowsRegister, all_bound, widths_from}
use Rattle.trace_read.proofs.LineSoundLemmas.{register_is, found_within}

-- ---- terms

-- a term that is read where these are bound
record Read (b : List ℕ) (width : ℕ) (t : Tree) (rest : Words) : Type 0 where
  fits : Fits b width t
  text : HasText t
  normal : IsNormal t
  formed : OfWords IsFormed rest

term_read : (b : List ℕ) (width : ℕ) (ws rest : Words) (t : Tree) → AreWidths (scope_of b) → OfWords IsFormed ws → SpellsTerm (scope_of b) width ws t rest → Read b width t rest
term_read b width ws rest t widths formed h =
    let own = spelled_declared (scope_of b) 1024 ws rest t h.spells formed in
    record {
      fits = record { width = h.wide; variables = all_bound b t own.0.1 };
      text = record { term = spelled_term (scope_of b) 1024 ws rest t widths h.spells formed; no_division = spelled_whole (scope_of b) 1024 ws rest t h.spells };
      normal = spelled_normal (scope_of b) 1024 ws rest t h.spells;
      formed = own.1;
    }

-- ---- events

-- an event that is read where these are bound
record ReadEvent (registers : List RegDecl) (b : List ℕ) (e : Event) (rest : Words) : Type 0 where
  keeps : KeepsRules registers b e
  printable : IsPrintableEvent (length registers) e
  normal : OfEvent IsNormal e
  formed : OfWords IsFormed rest
  knows : KnowsRegister registers e

within : (registers : List RegDecl) (x : Text) (r : ℕ) → register_number registers x ≡ Some r → r < length registers
unfolding register_number
within registers x r e = omega (arith, (found_within registers x 0 r e).1)

event_read : (registers : List RegDecl) (b : List ℕ) (ws rest : Words) (e : Event) → AreWidths (scope_of b) → OfWords IsFormed ws → SpellsEvent registers (scope_of b) ws e rest → ReadEvent registers b e rest
event_read registers b ws rest e widths formed (reads_register {r = r} {x = x} h) =
    record {
      keeps = record { width = width_at registers r; register = register_is registers x r h; next = as_many 0 b };
      printable = within registers x r h;
      normal = tt;
      formed = formed.1.1.1;
      knows = register_is registers x r h;
    }
event_read registers b ws rest e widths formed (writes_register {r = r} {width = w} {x = x} {t = t} {ws = us} h k l) =
    let own = term_read b w us rest t widths formed.1.1 l in
    record {
      keeps = record { width = w; register = k; term = own.fits };
      printable = (within registers x r h, own.text);
      normal = own.normal;
      formed = own.formed;
      knows = tt;
    }
event_read registers b ws rest e widths formed (reads_memory {a = a} {ws = us} h k) =
    let own = term_read b 64 us _ a widths formed.1.1 h in
    record { keeps = (as_many 0 b, own.fits, k); printable = own.text; normal = own.normal; formed = own.formed.1; knows = tt }
event_read registers b ws rest e widths formed (writes_memory {n = n} {a = a} {t = t} {ws = us} {ws' = vs} h k l) =
    let at = term_read b 64 us vs a widths formed.1 h in
    let by = term_read b (8 * n) vs _ t widths at.formed k in
    record { keeps = (at.fits, by.fits, l); printable = (at.text, by.text); normal = (at.normal, by.normal); formed = by.formed.1; knows = tt }
event_read registers b ws rest e widths formed (assumes {t = t} {ws = us} h) =
    let own = term_read b 1 us rest t widths formed.1 h in
    record { keeps = own.fits; printable = own.text; normal = own.normal; formed = own.formed; knows = tt }
event_read registers b ws rest e widths formed (needs {t = t} {ws = us} h) =
    let own = term_read b 1 us rest t widths formed.1 h in
    record { keeps = own.fits; printable = own.text; normal = own.normal; formed = own.formed; knows = tt }
event_read registers b ws rest e widths formed (assumes_register {r = r} {x = x} h k) =
    record { keeps = (k, formed.1.1.0); printable = within registers x r h; normal = tt; formed = formed.1.1.1; knows = tt }

-- ---- widths

width_found : (registers : List RegDecl) (r w : ℕ) (d : RegDecl) → register_width registers r ≡ Some w → (r < length registers) × ((slice_index_or registers r d).width ≡ w)
width_found [] r w d e = absurd (cc)
width_found (c ∷ cs) zero w d e = (omega arith, cc)
width_found (c ∷ cs) (suc r) w d e = let more = width_found cs r w d e in (omega (arith, more.0), more.1)

register_fine : (registers : List RegDecl) (r w : ℕ) → AreRegisters registers → register_width registers r ≡ Some w → IsWidth w
register_fine registers r w fine e =
    let own = width_found registers r w (record { name = []; width = 0 }) e in
    record {
      positive = omega (arith, own.1, fine.positive r (record { name = []; width = 0 }) own.0);
      at_most = omega (arith, own.1, fine.at_most r (record { name = []; width = 0 }) own.0);
    }

bytes_fine : (n : ℕ) → IsByteCount n → IsWidth (8 * n)
bytes_fine n (zero, l, e) = record { positive = omega (arith, e); at_most = omega (arith, e) }
bytes_fine n (suc zero, l, e) = record { positive = omega (arith, e); at_most = omega (arith, e) }
bytes_fine n (suc (suc zero), l, e) = record { positive = omega (arith, e); at_most = omega (arith, e) }
bytes_fine n (suc (suc (suc zero)), l, e) = record { positive = omega (arith, e); at_most = omega (arith, e) }
bytes_fine n (suc (suc (suc (suc zero))), l, e) = record { positive = omega (arith, e); at_most = omega (arith, e) }
bytes_fine n (suc (suc (suc (suc (suc k)))), l, e) = absurd (omega arith)

widths_behind : (registers : List RegDecl) (b : List ℕ) (e : Event) → AreRegisters registers → AreWidths (scope_of b) → KeepsRules registers b e → AreWidths (scope_of (bound_behind registers b e))
widths_behind registers b (read_reg r x) fine widths h =
    subst (λ (o : Option ℕ). AreWidths (scope_of (b ++ of_width o))) (sym h.register) (widths_from 0 b h.width widths (register_fine registers r h.width fine h.register))
  where
    of_width : Option ℕ → List ℕ
    of_width None = []
    of_width (Some w) = w ∷ []
widths_behind registers b (write_reg r t) fine widths h = widths
widths_behind registers b (read_mem x at n) fine widths h = widths_from 0 b (8 * n) widths (bytes_fine n h.2)
widths_behind registers b (write_mem at t n) fine widths h = widths
widths_behind registers b (assume t) fine widths h = widths
widths_behind registers b (need t) fine widths h = widths
widths_behind registers b (assume_reg r value) fine widths h = widths

-- ---- traces

-- a trace that is read where these are bound
record ReadTrace (registers : List RegDecl) (b : List ℕ) (t : Trace) (rest : Words) : Type 0 where
  keeps : TraceKeepsRules registers t b
  printable : IsPrintable (length registers) t
  normal : OfTrace IsNormal t
  formed : OfWords IsFormed rest

-- traces in a row, in front of each of which these are bound
record ReadTraces (registers : List RegDecl) (b : List ℕ) (ts : Traces) (rest : Words) : Type 0 where
  keeps : ChildrenKeepRules registers ts b
  printable : ArePrintable (length registers) ts
  normal : OfTraces IsNormal ts
  formed : OfWords IsFormed rest

more_read : (registers : List RegDecl) (b : List ℕ) (e : Event) (es : List Event) (end : End) (ws rest : Words) → ReadEvent registers b e ws → ReadTrace registers (bound_behind registers b e) (trace.trace es end) rest
    → ReadTrace registers b (trace.trace (e ∷ es) end) rest
more_read registers b e es end ws rest h k =
    record { keeps = (h.keeps, k.keeps); printable = ((h.printable, k.printable.0), k.printable.1); normal = ((h.normal, k.normal.0), k.normal.1); formed = k.formed }

module _ (registers : List RegDecl) (fine : AreRegisters registers) where
  mutual
    trace_read : (b : List ℕ) (scope : Scope) (ws rest : Words) (t : Trace) → scope ≡ scope_of b → AreWidths (scope_of b) → OfWords IsFormed ws → SpellsTrace registers scope ws t rest → ReadTrace registers b t rest
    trace_read b scope ws rest t is widths formed (an_event {ws' = us} {e = e} {es = es} {end = end} h more) =
        let own = event_read registers b ws us e widths formed (subst (λ (s : Scope). SpellsEvent registers s ws e us) is h) in
        let next : scope_behind registers scope e ≡ scope_of (bound_behind registers b e) = ap (λ (s : Scope). scope_behind registers s e) is ∙ bound_is registers b e own.knows in
        more_read registers b e es end us rest own
        (trace_read (bound_behind registers b e) (scope_behind registers scope e) us rest (trace.trace es end) next (widths_behind registers b e fine widths own.keeps) own.formed more)
    trace_read b scope ws rest t is widths formed a_done = record { keeps = tt; printable = (tt, tt); normal = (tt, tt); formed = formed.1 }
    trace_read b scope ws rest t is widths formed (a_failure h) = record { keeps = tt; printable = (tt, tt); normal = (tt, tt); formed = formed.1.1 }
    trace_read b scope ws rest t is widths formed (a_split {t = u} {ts = us} {ws = vs} e h) =
        let own = traces_read b scope vs rest (some u us) is widths formed.1.1 h in
        record { keeps = own.keeps; printable = (tt, own.printable); normal = (tt, own.normal); formed = own.formed }

    traces_read : (b : List ℕ) (scope : Scope) (ws rest : Words) (ts : Traces) → scope ≡ scope_of b → AreWidths (scope_of b) → OfWords IsFormed ws → SpellsTraces registers scope ws ts rest → ReadTraces registers b ts rest
    traces_read b scope ws rest ts is widths formed no_more = record { keeps = tt; printable = tt; normal = tt; formed = formed }
    traces_read b scope ws rest ts is widths formed (one_more {ws' = vs} {t = t} {ts = us} h more) =
        let first = trace_read b scope ws vs t is widths formed h in
        let others = traces_read b scope vs rest us is widths first.formed more in
        record { keeps = (first.keeps, others.keeps); printable = (first.printable, others.printable); normal = (first.normal, others.normal); formed = others.formed }

pub spelled_by_rules : (registers : List RegDecl) (text : Text) (t : Trace) → AreRegisters registers → SpellsText registers text t → IsByTheRules registers t × IsPrintable (length registers) t × OfTrace IsNormal t
spelled_by_rules registers text t fine h =
    let own = trace_read registers fine [] [] (lexemes text h.tokens) [] t refl tt (tokens_formed text h.tokens 0 h.cutting) h.spells in
    (own.keeps, own.printable, own.normal)
