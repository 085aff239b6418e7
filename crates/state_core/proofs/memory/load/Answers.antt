use Rattle.std.proofs.Common.{rules}
use Rattle.state_core.specs.Memory.{load}
use Rattle.state_core.proofs.memory.load.Goals as goal

pub returns-then-passes_end-clause-value : goal.returns-then-passes_end-clause-value
unfolding load
returns-then-passes_end-clause-value c = search rules

pub returns-then-holds-clause-value : goal.returns-then-holds-clause-value
unfolding load
returns-then-holds-clause-value c = search rules

pub returns-then-touches-clause-value : goal.returns-then-touches-clause-value
unfolding load
returns-then-touches-clause-value c = search rules

pub returns-in-Some-clause-value : goal.returns-in-Some-clause-value
unfolding load
returns-in-Some-clause-value c = search rules

pub returns-in-None-clause-value : goal.returns-in-None-clause-value
unfolding load
returns-in-None-clause-value c = search rules
