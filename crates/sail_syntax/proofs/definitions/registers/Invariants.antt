use Rattle.std.proofs.Common.{◌≡◌, ◌++◌, map, drop}
use Rattle.sail_syntax.specs.Program.{registers_of}
use Rattle.sail_syntax.specs.View.{program_of, definition_of}
use Rattle.sail_syntax.proofs.definitions.registers.Given as goal

-- those so far, and then those of the rest
abbrev pub invariant-loop-def : goal.invariant-loop-def
invariant-loop-def l =
    l.all ++ registers_of (map definition_of (drop l.def-index l.program.defs)) ≡ registers_of (program_of l.program)
