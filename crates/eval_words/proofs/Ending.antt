-- An instruction ends as the call of its function does.
use Rattle.std.proofs.Common.{ap, List, []}
use Rattle.std.specs.Prelude.{Result, Ok, Err}
use Rattle.sail_values.specs.declared.value.Stop.{Stop}
use Rattle.sail_values.specs.declared.value.Stop.TheVariants as stop
use Rattle.eval_parts.specs.Worlds.{Agrees, LeavesPassed}
use Rattle.state_core.specs.World.{World}
use Rattle.sail_values.specs.declared.value.Value.{Value}
use Rattle.sail_values.specs.declared.value.Outcome.{Outcome}
use Rattle.sail_values.specs.declared.value.Outcome.TheVariants as outcome
use Rattle.eval_rules.specs.Flow.{Out}
use Rattle.eval_rules.specs.Moments.{Moment}
use Rattle.eval_words.specs.Agrees.{Comes, Ends, EndsPassed, outcome_of}
use Rattle.eval_words.specs.Instr.{end_of}

pub ends : (o : Outcome) (w : World) (out : Out Value) → Comes o w out → Ends o w (end_of out)
ends (outcome.Value v) w out h = ap end_of h
ends (outcome.Fault kind at) w out h = ap end_of h
ends outcome.NoAnswer w out h = ap end_of h
ends outcome.NoMemory w out h = tt

pub comes : (r : Result Value Stop) (w : World) (out : Out Value) → Agrees r [] w out → Comes (outcome_of r) w out
comes (Ok v) w out h = h
comes (Err (stop.Fault kind at)) w out h = h
comes (Err stop.NoAnswer) w out h = h
comes (Err stop.NoMemory) w out h = tt

-- the world that is left after want of memory
pub comes_passed : (r : Result Value Stop) (w start : World) (ms : List Moment) → LeavesPassed r w start ms → EndsPassed (outcome_of r) w start ms
comes_passed (Ok v) w start ms h = tt
comes_passed (Err (stop.Fault kind at)) w start ms h = tt
comes_passed (Err stop.NoAnswer) w start ms h = tt
comes_passed (Err stop.NoMemory) w start ms h = h
