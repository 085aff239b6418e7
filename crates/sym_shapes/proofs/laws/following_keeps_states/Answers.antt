use Rattle.std.proofs.Common.{List}
use Rattle.state_core.specs.declared.kinds.Range.{Range}
use Rattle.eval_types.proofs.GivenLemmas.{Accesses}
use Rattle.sym_shapes.proofs.KeepStates.{events_keep_states, outcomes_keep_states, traces_keep_states}
use Rattle.sym_shapes.proofs.laws.following_keeps_states.Goals as goal

accesses : goal.After-stores → (ranges : List Range) → Accesses ranges
accesses c ranges = record { loads = λ at n w. c.reads.ensures.loads ranges at n w; stores = λ at n x w. c.stores.ensures ranges at n x w }

pub returns : goal.returns
returns c = record { events = events_keep_states (accesses c); outcomes = outcomes_keep_states (accesses c); words = traces_keep_states (accesses c) }
