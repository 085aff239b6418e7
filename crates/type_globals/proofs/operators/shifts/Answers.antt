use Rattle.std.proofs.lemmas.Result.{on_ok_weaker}
use Rattle.type_globals.proofs.DeclaredLemmas.{three}
use Rattle.type_globals.proofs.operators.shifts.Goals as goal

pub returns : goal.returns
returns c = on_ok_weaker c.shift-3.result (three c.args.names.now _ _ _ c.in_ok-shift.ensures c.in_ok-shift-2.ensures) c.shift-3.ensures
