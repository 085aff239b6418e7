use Rattle.std.specs.Prelude.{Ok}
use Rattle.arena_cases.proofs.WidthLemmas.{doubled_variables}
use Rattle.arena_cases.proofs.terms.doubled.Goals as goal

pub doubling-preserved : goal.doubling-preserved
doubling-preserved c =
    (c.in-Ok.ensures.term, doubled_variables c.doubling.terms c.make.new.terms c.doubling.sum (Ok c.in-Ok.sum) c.doubling.invariant c.in-Ok.ensures.makes)
