use Rattle.std.proofs.Common.{rules}
use Rattle.state_core.specs.Memory.{store}
use Rattle.state_core.proofs.memory.store.Goals as goal

pub returns-then-passes_end-clause-value : goal.returns-then-passes_end-clause-value
unfolding store
returns-then-passes_end-clause-value c = search rules

pub returns-then-not-holds-clause-value : goal.returns-then-not-holds-clause-value
unfolding store
returns-then-not-holds-clause-value c = search rules

pub returns-then-touches-clause-value : goal.returns-then-touches-clause-value
unfolding store
returns-then-touches-clause-value c = search rules

pub returns-then-write_bytes-clause-value : goal.returns-then-write_bytes-clause-value
unfolding store
returns-then-write_bytes-clause-value c = search rules

pub returns-else-write_bytes-clause-value : goal.returns-else-write_bytes-clause-value
unfolding store
returns-else-write_bytes-clause-value c = search rules
