-- What is said of a Sail text where the words of a trace name it.
use Rattle.std.specs.Prelude.{◌≡◌, ◌⊎◌, Bool, true, false, List, codes, Option, Some, None, Result, Ok, Err}
use Rattle.lex_core.specs.Classes.{Text}
use Rattle.sail_syntax.specs.Program.{Definition}
use Rattle.sail_verdict.specs.Verdict.{IsTyped, sail_verdict}
use Rattle.sail_fault_text.specs.FaultText.{input}
use Rattle.constants_text.specs.Texts.{usage_text}
use Rattle.report_text.specs.Outcome.{Said}
use Rattle.report_text.specs.declared.outcome.Status.TheVariants as kind
use Rattle.report_text.specs.declared.numbers.TheConstants.{NOT_YET}
use Rattle.trace_words.specs.Trace.{TraceSaid}
use Rattle.trace_answer.specs.Fits.{words_fit}

-- the words don't fit the program that the text gives
abbrev pub misfit : Said
misfit = record { status = kind.Words; text = usage_text }

-- where the text types: the words fit it, and its traces aren't made yet, or they don't
abbrev pub on_typed : Text → Bool → Said
on_typed file true = input file NOT_YET (codes "0")
on_typed file false = misfit

-- with the program of a text that types, or what is said of the text's first fault
abbrev pub on_sail : TraceSaid → Result (List Definition) (Option Said) → Option Said
on_sail t (Ok defs) = Some (on_typed t.sail (words_fit defs t))
on_sail t (Err said) = said

-- what is said of the text; nothing only of want of memory, which no text has
abbrev pub trace_verdict : TraceSaid → Text → Option Said
trace_verdict t text = on_sail t (sail_verdict t.sail text)

-- ---- laws

-- the text spells a program that types, and the words don't fit it
pub record IsMisfit (t : TraceSaid) (text : Text) : Type 0 where
  pub defs : List Definition
  pub program : IsTyped text defs
  pub misfit : words_fit defs t ≡ false

-- what can be said: an input or a limit, or that the words don't fit, where they don't
abbrev pub IsTold : TraceSaid → Text → Option Said → Type 0
IsTold t text None = ⊥
IsTold t text (Some said) = (said.status ≡ kind.Input) ⊎ (said.status ≡ kind.Limit) ⊎ ((said ≡ misfit) × IsMisfit t text)
