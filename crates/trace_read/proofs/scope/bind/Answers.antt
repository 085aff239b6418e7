use Rattle.std.proofs.Common.{◌≡◌, sym, subst, rules}
use Rattle.trace_read.specs.Paths.{bound}
use Rattle.trace_read.specs.Readers.{IsPath}
use Rattle.trace_read.proofs.ScopeLemmas.{path_more}
use Rattle.trace_read.proofs.scope.bind.Goals as goal

pub returns-clause-path : goal.returns-clause-path
returns-clause-path c =
    let written : c.push.new.self ≡ bound c.args.width c.args.scope.now = search rules in
    subst IsPath (sym written) (path_more c.args.scope.now c.args.width c.requires.path c.requires.room c.requires.width)
