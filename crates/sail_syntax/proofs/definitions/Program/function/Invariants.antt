use Rattle.std.proofs.Common.{◌≡◌, map, drop}
use Rattle.sail_syntax.specs.Program.{function_of}
use Rattle.sail_syntax.specs.View.{program_of, definition_of}
use Rattle.sail_syntax.proofs.definitions.Program.function.Given as goal

-- none of those before it is the function
abbrev pub invariant-loop-def : goal.invariant-loop-def
invariant-loop-def l =
    function_of (map definition_of (drop l.def-index l.self.defs)) l.name ≡ function_of (program_of l.self) l.name
