use Rattle.std.proofs.Common.{List}
use Rattle.state_core.specs.declared.kinds.Range.{Range}
use Rattle.eval_types.proofs.GivenLemmas.{Accesses}
use Rattle.sym_follows.proofs.Program.{evaluation_follows}
use Rattle.sym_follows.proofs.laws.evaluation_follows.Goals as goal

accesses : goal.After-stores → (ranges : List Range) → Accesses ranges
accesses c ranges = record { loads = λ at n w. c.reads.ensures.loads ranges at n w; stores = λ at n x w. c.stores.ensures ranges at n x w }

pub returns : goal.returns
returns c = evaluation_follows c.following.ensures.list (accesses c)
