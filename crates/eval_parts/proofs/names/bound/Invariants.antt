use Rattle.std.proofs.Common.{◌≡◌, [], drop}
use Rattle.eval_rules.specs.Eval.{bound}
use Rattle.eval_parts.proofs.names.bound.Given as goal

abbrev pub invariant-loop-at : goal.invariant-loop-at
invariant-loop-at l = bound (drop l.at l.params) l.args l.at l.locals ≡ bound l.params l.args 0 []
