use Rattle.std.proofs.Common.{◌≡◌, drop}
use Rattle.type_rules.specs.Faults.{first_from}
use Rattle.type_rules.specs.Program.{types_faults}
use Rattle.type_names.specs.Borrowed.{maybe_fault}
use Rattle.type_programs.proofs.definitions.judge_types.Given as goal

abbrev pub invariant-loop-ty : goal.invariant-loop-ty
invariant-loop-ty l =
    first_from (maybe_fault l.best) (types_faults l.globals l.at (drop l.ty-index l.types)) ≡ first_from (maybe_fault l.fn.best) (types_faults l.globals l.at l.types)
