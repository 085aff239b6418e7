use Rattle.std.proofs.Common.{rules}
use Rattle.state_core.specs.Memory.{fetch}
use Rattle.state_core.proofs.memory.fetch.Goals as goal

pub returns-then-passes_end-clause-value : goal.returns-then-passes_end-clause-value
unfolding fetch
returns-then-passes_end-clause-value c = search rules

pub returns-then-touches-clause-value : goal.returns-then-touches-clause-value
unfolding fetch
returns-then-touches-clause-value c = search rules

pub returns-in-Some-clause-value : goal.returns-in-Some-clause-value
unfolding fetch
returns-in-Some-clause-value c = search rules

pub returns-in-None-clause-value : goal.returns-in-None-clause-value
unfolding fetch
returns-in-None-clause-value c = search rules
