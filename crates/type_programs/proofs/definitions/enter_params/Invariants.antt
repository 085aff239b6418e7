use Rattle.std.proofs.Common.{◌≡◌, drop}
use Rattle.type_rules.specs.Program.{params_scope}
use Rattle.type_programs.proofs.definitions.enter_params.Given as goal

abbrev pub invariant-loop-param : goal.invariant-loop-param
invariant-loop-param l = params_scope l.globals (drop l.param-index l.params) l.locals ≡ params_scope l.globals l.params l.fn.locals
