use Rattle.std.proofs.Common.{◌≡◌, map, drop}
use Rattle.sail_syntax.specs.Program.{registers_of}
use Rattle.sail_syntax.specs.View.{definition_of, program_of}
use Rattle.trace_words.specs.Given.{given_said}
use Rattle.trace_answer.specs.Fits.{is_declared}
use Rattle.trace_answer.proofs.fitting.is_declared.Given as goal

-- none of those before declares it
abbrev pub invariant-loop-def : goal.invariant-loop-def
invariant-loop-def l =
    is_declared (registers_of (map definition_of (drop l.def-index l.program.defs))) (given_said l.given) ≡ is_declared (registers_of (program_of l.program)) (given_said l.given)
