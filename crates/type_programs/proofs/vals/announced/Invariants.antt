use Rattle.std.proofs.Common.{◌≡◌, drop, map}
use Rattle.sail_syntax.specs.View.{definition_of}
use Rattle.type_rules.specs.Program.{announced}
use Rattle.type_programs.proofs.vals.announced.Given as goal

abbrev pub invariant-loop-def : goal.invariant-loop-def
invariant-loop-def l = announced l.name (map definition_of (drop l.def-index l.defs)) ≡ announced l.name (map definition_of l.defs)
