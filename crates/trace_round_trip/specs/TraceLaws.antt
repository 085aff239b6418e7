-- What is printed of a trace is read back.
use Rattle.std.specs.Prelude.{◌≡◌, ◌≤◌, List, length, Ok}
use Rattle.std.specs.Str.{IsUtf8}
use Rattle.lex_core.specs.declared.name.RegDecl.{RegDecl}
use Rattle.term_tree.specs.Terms.{Text}
use Rattle.term_make.specs.Normal.{IsNormal}
use Rattle.term_print.specs.Cutting.{IsCutInto}
use Rattle.trace_plain.specs.Printable.{AreRegisters, IsPrintable}
use Rattle.trace_plain.specs.Rules.{IsByTheRules}
use Rattle.trace_plain.specs.Trace.{Trace, size}
use Rattle.trace_print.specs.Printing.{trace_text}
use Rattle.trace_read.specs.declared.reading.TheConstants.{MOST}
use Rattle.trace_read.specs.Reading.{trace_in}
use Rattle.trace_plain.specs.Terms.{OfTrace}
use Rattle.trace_round_trip.specs.TraceWords.{trace_words}

-- a trace by the rules, which has a text, in whose terms no rule fits, with no more events and ends than a text may have
pub record IsReadable (registers : List RegDecl) (t : Trace) : Type 0 where
  pub rules : IsByTheRules registers t
  pub printable : IsPrintable (length registers) t
  pub normal : OfTrace IsNormal t
  pub few : size t ≤ MOST

-- the text of such a trace is cut into its words, and is UTF-8, so that it is printed byte for byte
abbrev pub PrintedIsCut : Type 0
PrintedIsCut = (registers : List RegDecl) (t : Trace) → AreRegisters registers → IsReadable registers t
    → IsCutInto (trace_text registers t) (trace_words registers t) × IsUtf8 (trace_text registers t)

-- it is read as that trace
abbrev pub PrintedIsRead : Type 0
PrintedIsRead = (registers : List RegDecl) (t : Trace) → AreRegisters registers → IsReadable registers t → trace_in registers (trace_text registers t) ≡ Ok t

-- what is read of a text is such a trace, and so is read back from its own text
abbrev pub ReadIsReadable : Type 0
ReadIsReadable = (registers : List RegDecl) (text : Text) (t : Trace) → AreRegisters registers → trace_in registers text ≡ Ok t → IsReadable registers t
