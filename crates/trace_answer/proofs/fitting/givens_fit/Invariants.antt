use Rattle.std.proofs.Common.{◌≡◌, map, drop}
use Rattle.sail_syntax.specs.Program.{registers_of}
use Rattle.sail_syntax.specs.View.{program_of}
use Rattle.trace_words.specs.Given.{given_said}
use Rattle.trace_answer.specs.Fits.{givens_fit}
use Rattle.trace_answer.proofs.fitting.givens_fit.Given as goal

-- those before fit
abbrev pub invariant-loop-i : goal.invariant-loop-i
invariant-loop-i l =
    givens_fit (registers_of (program_of l.program)) (map given_said (drop l.i l.given)) ≡ givens_fit (registers_of (program_of l.program)) (map given_said l.given)
