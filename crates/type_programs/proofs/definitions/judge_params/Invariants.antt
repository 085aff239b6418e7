use Rattle.std.proofs.Common.{◌≡◌, drop}
use Rattle.type_rules.specs.Faults.{first_from}
use Rattle.type_rules.specs.Program.{params_faults}
use Rattle.type_names.specs.Borrowed.{maybe_fault}
use Rattle.type_programs.proofs.definitions.judge_params.Given as goal

abbrev pub invariant-loop-param : goal.invariant-loop-param
invariant-loop-param l =
    first_from (maybe_fault l.best) (params_faults l.globals l.at (drop l.param-index l.params)) ≡ first_from (maybe_fault l.fn.best) (params_faults l.globals l.at l.params)
