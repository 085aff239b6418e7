use Rattle.eval_types.proofs.GivenLemmas.{Accesses}
use Rattle.eval_types.proofs.ProgramLemmas.{keeps_types}
use Rattle.eval_types.proofs.CallLemmas.{calls_keep_types, instr_keeps_types, instr16_keeps_types}
use Rattle.eval_types.proofs.laws.evaluation_keeps_types.Goals as goal
use Rattle.state_core.specs.declared.kinds.Range.{Range}
use Rattle.std.proofs.Common.{List}

accesses : goal.After-stores → (ranges : List Range) → Accesses ranges
accesses c ranges = record { loads = λ at n w. c.reads.ensures.loads ranges at n w; stores = λ at n x w. c.stores.ensures ranges at n x w }

pub returns : goal.returns
returns c = record { expressions = keeps_types (accesses c); calls = calls_keep_types (accesses c); instr = instr_keeps_types (accesses c); instr16 = instr16_keeps_types (accesses c) }
