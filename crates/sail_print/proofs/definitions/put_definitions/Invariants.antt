use Rattle.std.proofs.Common.{◌≡◌, ◌++◌, map, drop}
use Rattle.sail_syntax.specs.View.{definition_of}
use Rattle.sail_text.specs.Definitions.{printed}
use Rattle.sail_print.proofs.definitions.put_definitions.Given as goal

-- what is written, and the text of what is left, are the whole
abbrev pub invariant-loop-def : goal.invariant-loop-def
invariant-loop-def l = l.out.items ++ printed (map definition_of (drop l.def-index l.defs)) ≡ l.fn.out.items ++ printed (map definition_of l.defs)
