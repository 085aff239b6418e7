use Rattle.sym_uses.proofs.laws.instructions_follow.Goals as goal
use Rattle.state_core.specs.declared.kinds.Range.{Range}
use Rattle.std.proofs.Common.{List}
use Rattle.trace_plain.specs.Laws.{FollowsTheList}
use Rattle.eval_types.proofs.GivenLemmas.{Accesses}
use Rattle.sym_uses.proofs.CoverCalls.{functions_follow, instr_follows, instr16_follows}

accesses : goal.After-stores → (ranges : List Range) → Accesses ranges
accesses c ranges = record { loads = λ at n w. c.reads.ensures.loads ranges at n w; stores = λ at n x w. c.stores.ensures ranges at n x w }

list : goal.After-stores → FollowsTheList
list c = c.following.ensures.list

pub returns : goal.returns
returns c = record {
  functions = functions_follow (list c) (accesses c);
  instr = instr_follows (list c) (accesses c);
  instr16 = instr16_follows (list c) (accesses c);
}
