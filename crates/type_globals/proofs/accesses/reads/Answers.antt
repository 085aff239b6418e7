use Rattle.std.proofs.lemmas.Result.{on_ok_weaker}
use Rattle.type_globals.proofs.DeclaredLemmas.{five}
use Rattle.type_globals.proofs.accesses.reads.Goals as goal

pub returns : goal.returns
returns c = on_ok_weaker c.read-5.result (five c.args.names.now _ _ _ _ _ c.in_ok-read.ensures c.in_ok-read-2.ensures c.in_ok-read-3.ensures c.in_ok-read-4.ensures) c.read-5.ensures
