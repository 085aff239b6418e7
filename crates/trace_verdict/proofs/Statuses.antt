-- That something is said of each text, and with which status.
use Rattle.std.proofs.Common.{◌≡◌, Bool, true, false, List, Some, None, refl, inl, inr}
use Rattle.std.specs.Prelude.{Result, Ok, Err}
use Rattle.std.specs.declared.option.Option.{Option}
use Rattle.lex_core.specs.Classes.{Text}
use Rattle.sail_syntax.specs.Program.{Definition}
use Rattle.sail_verdict.specs.Verdict.{IsTyped, sail_verdict}
use Rattle.sail_verdict.specs.Verdict as sail
use Rattle.sail_verdict.proofs.Statuses as texts
use Rattle.report_text.specs.Outcome.{Said}
use Rattle.trace_words.specs.Trace.{TraceSaid}
use Rattle.trace_answer.specs.Fits.{words_fit}
use Rattle.trace_verdict.specs.Verdict.{on_typed, on_sail, trace_verdict, IsTold}

module _ (t : TraceSaid) (text : Text) where
  by_fit : (defs : List Definition) (fit : Bool) → IsTyped text defs → words_fit defs t ≡ fit → IsTold t text (Some (on_typed t.sail fit))
  by_fit defs true program fit = inl refl
  by_fit defs false program fit = inr (inr (refl, record { defs = defs; program = program; misfit = fit }))

  by_sail : (r : Result (List Definition) (Option Said)) → sail.IsTold text r → IsTold t text (on_sail t r)
  by_sail (Ok defs) h = by_fit defs (words_fit defs t) h refl
  by_sail (Err None) h = h
  by_sail (Err (Some said)) (inl h, none) = inl h
  by_sail (Err (Some said)) (inr h, none) = inr (inl h)

pub told_of_each : (t : TraceSaid) (text : Text) → IsTold t text (trace_verdict t text)
told_of_each t text = by_sail t text (sail_verdict t.sail text) (texts.told_of_each t.sail text)
