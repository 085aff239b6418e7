-- A val, and a function that is there.
use Rattle.std.specs.Prelude.{ℕ, List, length, nat_eq, if◌then◌else◌}
use Rattle.sail_syntax.specs.declared.types.Ty.{Ty}
use Rattle.sail_syntax.specs.declared.types.Param.{Param}
use Rattle.type_rules.specs.declared.fault.Why.TheVariants.{Differs}
use Rattle.type_rules.specs.Faults.{Faults}
use Rattle.type_rules.specs.Program.{compared_each, wrong}

-- the types that are announced, and those of a function
abbrev pub compared_all : ℕ → List Ty → Ty → List Param → Ty → Faults
compared_all at args result params given =
    if nat_eq (length args) (length params) then compared_each at args params result given else wrong at (Differs result given)
