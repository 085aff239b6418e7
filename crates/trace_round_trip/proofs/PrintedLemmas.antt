-- What is printed is read back.
use Rattle.std.proofs.Common.{◌≡◌, List, [], ◌∷◌, length, map, drop, Ok, refl, sym, ap, subst, ◌∙◌, arith}
use Rattle.std.specs.Str.{IsUtf8}
use Rattle.std.proofs.lemmas.Str.{IsUtf8-from_ascii}
use Rattle.lex_core.specs.declared.name.RegDecl.{RegDecl}
use Rattle.term_tree.specs.Terms.{Text}
use Rattle.term_print.specs.Cutting.{IsCutInto}
use Rattle.term_print.specs.Words.{Word, lexemes}
use Rattle.term_read.specs.Spelling.{Words}
use Rattle.term_round_trip.specs.WordLaws.{Follows}
use Rattle.term_round_trip.proofs.PrintedReadLemmas.{follow_all}
use Rattle.trace_plain.specs.Printable.{AreRegisters}
use Rattle.trace_plain.specs.Trace.{Trace}
use Rattle.trace_print.specs.Printing.{trace_text}
use Rattle.trace_read.specs.Reading.{trace_in}
use Rattle.trace_read.proofs.CompleteLemmas.{spelled_is_read}
use Rattle.trace_read.proofs.RuleLemmas.{spelled_by_rules}
use Rattle.trace_read.proofs.SoundLemmas.{read_is_spelled}
use Rattle.trace_round_trip.specs.TraceLaws.{IsReadable}
use Rattle.trace_round_trip.specs.TraceWords.{trace_words}
use Rattle.trace_round_trip.proofs.AsciiLemmas.{trace_ascii}
use Rattle.trace_round_trip.proofs.LineCutLemmas.{all_cut}
use Rattle.trace_round_trip.proofs.SpellLemmas.{trace_spelled}
use Rattle.trace_round_trip.proofs.TraceCutLemmas.{trace_cut}

cut_into : (registers : List RegDecl) (t : Trace) → AreRegisters registers → IsReadable registers t → IsCutInto (trace_text registers t) (trace_words registers t)
cut_into registers t fine h = all_cut (trace_text registers t) (trace_words registers t) (trace_cut registers fine [] t (omega (arith, h.few)) h.rules h.printable)

pub printed_is_cut : (registers : List RegDecl) (t : Trace) → AreRegisters registers → IsReadable registers t → IsCutInto (trace_text registers t) (trace_words registers t) × IsUtf8 (trace_text registers t)
printed_is_cut registers t fine h =
    (cut_into registers t fine h, IsUtf8-from_ascii (trace_text registers t) (trace_ascii registers fine [] t (omega (arith, h.few)) h.rules h.printable))

pub printed_is_read : (registers : List RegDecl) (t : Trace) → AreRegisters registers → IsReadable registers t → trace_in registers (trace_text registers t) ≡ Ok t
printed_is_read registers t fine h =
    let cuts = cut_into registers t fine h in
    let words : Follows (trace_words registers t) (lexemes (trace_text registers t) cuts.0) [] =
    subst (λ (ws : List Word). Follows ws (lexemes (trace_text registers t) cuts.0) []) cuts.2 (follow_all (lexemes (trace_text registers t) cuts.0)) in
    spelled_is_read registers (trace_text registers t) t
    (record { tokens = cuts.0; cutting = cuts.1; spells = trace_spelled registers fine [] t (lexemes (trace_text registers t) cuts.0) [] (omega (arith, h.few)) h.rules h.printable h.normal words }) h.few

pub read_is_readable : (registers : List RegDecl) (text : Text) (t : Trace) → AreRegisters registers → trace_in registers text ≡ Ok t → IsReadable registers t
read_is_readable registers text t fine e =
    let own = read_is_spelled registers text t e in
    let rules = spelled_by_rules registers text t fine own.0 in
    record { rules = rules.0; printable = rules.1; normal = rules.2; few = own.1 }
