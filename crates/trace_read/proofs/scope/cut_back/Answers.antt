use Rattle.std.proofs.Common.{length, sym, subst, arith}
use Rattle.trace_read.specs.Readers.{IsPath}
use Rattle.trace_read.proofs.ScopeLemmas.{one_less, path_first}
use Rattle.trace_read.proofs.scope.cut_back.Goals as goal

pub loop-scope-preserved-in-loop-scope : goal.loop-scope-preserved-in-loop-scope
loop-scope-preserved-in-loop-scope c =
    let less = one_less c.args.scope.now c.loop-scope.scope c.pop.new.self c.pop.result c.pop.ensures c.loop-scope.invariant.0 (omega arith) in
    (less.0, omega (arith, less.1), omega (arith, less.1))

pub returns-clause-path : goal.returns-clause-path
returns-clause-path c = subst IsPath (sym c.loop-scope.invariant.0) (path_first c.args.scope.now (length c.loop-scope.scope) c.requires.path)
