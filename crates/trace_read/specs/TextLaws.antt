-- Laws of traces as text, over the definitions alone.
use Rattle.std.specs.Prelude.{◌≡◌, ◌≤◌, List, length, Ok}
use Rattle.lex_core.specs.declared.name.RegDecl.{RegDecl}
use Rattle.term_tree.specs.Terms.{Text}
use Rattle.term_make.specs.Normal.{IsNormal}
use Rattle.trace_plain.specs.Printable.{AreRegisters, IsPrintable}
use Rattle.trace_plain.specs.Rules.{IsByTheRules}
use Rattle.trace_plain.specs.Trace.{Trace, size}
use Rattle.trace_read.specs.declared.reading.TheConstants.{MOST}
use Rattle.trace_read.specs.Reading.{trace_in}
use Rattle.trace_read.specs.Spelling.{SpellsText}
use Rattle.trace_plain.specs.Terms.{OfTrace}

-- what is read is spelled by the whole text, and has no more events and ends than there may be
abbrev pub ReadIsSpelled : Type 0
ReadIsSpelled = (registers : List RegDecl) (text : Text) (t : Trace) → trace_in registers text ≡ Ok t → SpellsText registers text t × (size t ≤ MOST)

-- what is spelled, with no more events and ends, is read
abbrev pub SpelledIsRead : Type 0
SpelledIsRead = (registers : List RegDecl) (text : Text) (t : Trace) → SpellsText registers text t → size t ≤ MOST → trace_in registers text ≡ Ok t

-- a text spells at most one trace
abbrev pub SpelledOnce : Type 0
SpelledOnce = (registers : List RegDecl) (text : Text) (t u : Trace) → SpellsText registers text t → SpellsText registers text u → t ≡ u

-- a trace that a text spells is one by the rules, it has a text, and no rule fits in its terms
abbrev pub SpelledIsByTheRules : Type 0
SpelledIsByTheRules = (registers : List RegDecl) (text : Text) (t : Trace) → AreRegisters registers → SpellsText registers text t
    → IsByTheRules registers t × IsPrintable (length registers) t × OfTrace IsNormal t
