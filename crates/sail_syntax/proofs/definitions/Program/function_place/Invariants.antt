use Rattle.std.proofs.Common.{◌≡◌, map, drop}
use Rattle.std.specs.List.{position_from}
use Rattle.sail_syntax.specs.Program.{is_function, function_of, function_place}
use Rattle.sail_syntax.specs.View.{program_of, definition_of}
use Rattle.sail_syntax.proofs.definitions.Program.function_place.Given as goal

-- none of those before it is the function
abbrev pub invariant-loop-place : goal.invariant-loop-place
invariant-loop-place l =
    (position_from (is_function l.name) l.place (map definition_of (drop l.place l.self.defs)) ≡ function_place (program_of l.self) l.name) ×
    (function_of (map definition_of (drop l.place l.self.defs)) l.name ≡ function_of (program_of l.self) l.name)
