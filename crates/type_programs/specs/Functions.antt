-- A function as the code has it.
use Rattle.std.specs.Prelude.{ℕ, List, []}
use Rattle.sail_syntax.specs.Program.{Function, function}
use Rattle.sail_syntax.specs.View.{tree}
use Rattle.type_rules.specs.declared.scope.Entry.{Entry}
use Rattle.type_rules.specs.Faults.{Faults}
use Rattle.type_rules.specs.Heights.{Height}
use Rattle.type_rules.specs.Program.{definition_faults}
use Rattle.type_programs.specs.declared.definitions.FunctionRef.{FunctionRef}

abbrev pub function_at : FunctionRef → Function
function_at f = record { name = f.name.now; params = f.params.now; result = f.gives.now; body = tree f.body.now; at = f.at }

-- its faults, where those functions and so many definitions stand above it
abbrev pub function_faults : List Entry → FunctionRef → List Height → ℕ → Faults
function_faults globals f above here = definition_faults globals (function (function_at f)) above here []
