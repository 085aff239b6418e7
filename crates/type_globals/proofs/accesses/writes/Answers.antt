use Rattle.std.proofs.lemmas.Result.{on_ok_weaker}
use Rattle.type_globals.proofs.DeclaredLemmas.{five}
use Rattle.type_globals.proofs.accesses.writes.Goals as goal

pub returns : goal.returns
returns c = on_ok_weaker c.write-5.result (five c.args.names.now _ _ _ _ _ c.in_ok-write.ensures c.in_ok-write-2.ensures c.in_ok-write-3.ensures c.in_ok-write-4.ensures) c.write-5.ensures
