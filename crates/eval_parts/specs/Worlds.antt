-- The code's world as the definitions' world, and what its accesses answer.
use Rattle.std.specs.Prelude.{◌≡◌, ℕ, List, Result, Ok, Err, refl}
use Rattle.std.specs.Coded.{Coded, code_by, coded×, coded_list, coded_ℕ}
use Rattle.state_core.specs.declared.kinds.Access.{Access}
use Rattle.state_core.specs.declared.kinds.DevEvent.{DevEvent}
use Rattle.state_core.specs.contracts.kinds.Access as access
use Rattle.state_core.specs.contracts.kinds.DevEvent as event
use Rattle.state_core.specs.State.{State, state_code}
use Rattle.state_core.specs.World.{World, Got, gets, faults, lacks, fault, lacks_answer}
use Rattle.state_core.specs.declared.kinds.MemStop.{MemStop}
use Rattle.state_core.specs.declared.kinds.MemStop.TheVariants as mem
use Rattle.sail_values.specs.declared.value.Slot.{Slot}
use Rattle.sail_values.specs.declared.value.Stop.{Stop}
use Rattle.sail_values.specs.declared.value.Stop.TheVariants as stop
use Rattle.eval_rules.specs.Flow.{Out, gives, stops}
use Rattle.eval_rules.specs.Moments.{Moment, IsPassed}

-- a world is stored as its parts
abbrev pub world_code : Coded World
world_code =
    code_by (State × (List ℕ × (List Access × List DevEvent))) (coded× state_code (coded× (coded_list coded_ℕ) (coded× (coded_list access.the_row.coded) (coded_list event.the_row.coded))))
    (λ w. (w.state, (w.answers, (w.accesses, w.events)))) (λ p. record { state = p.0; answers = p.1.0; accesses = p.1.1.0; events = p.1.1.1 }) (λ _. refl)

-- the answer, the locals and the world are those of the outcome; want of memory is free
abbrev pub Agrees : {X : Type 0} → Result X Stop → List Slot → World → Out X → Type 0
Agrees (Ok x) locals world out = out ≡ gives x locals world
Agrees (Err (stop.Fault kind at)) locals world out = out ≡ stops (fault kind at) world
Agrees (Err stop.NoAnswer) locals world out = out ≡ stops lacks_answer world
Agrees (Err stop.NoMemory) locals world out = Unit {0}

-- where an evaluation ends for want of memory, the world is one that these moments pass from the first world on
abbrev pub StopsPassed : Stop → World → World → List Moment → Type 0
StopsPassed (stop.Fault kind at) world start ms = Unit {0}
StopsPassed stop.NoAnswer world start ms = Unit {0}
StopsPassed stop.NoMemory world start ms = IsPassed world start ms

-- the same of what is answered
abbrev pub LeavesPassed : {X : Type 0} → Result X Stop → World → World → List Moment → Type 0
LeavesPassed (Ok x) world start ms = Unit {0}
LeavesPassed (Err why) world start ms = StopsPassed why world start ms

-- why an access at a place of the text gives nothing
abbrev pub stop_at : ℕ → MemStop → Stop
stop_at at (mem.Fault kind) = stop.Fault kind at
stop_at at mem.NoAnswer = stop.NoAnswer
stop_at at mem.NoMemory = stop.NoMemory

-- the answer to an access at a place of the text, and the world; want of memory is free
abbrev pub Accesses : {X Y : Type 0} → (X → Y) → ℕ → Result X Stop → World → Got Y → Type 0
Accesses f at (Ok x) world got = got ≡ gets (f x) world
Accesses f at (Err (stop.Fault kind place)) world got = (place ≡ at) × (got ≡ faults kind world)
Accesses f at (Err stop.NoAnswer) world got = got ≡ lacks world
Accesses f at (Err stop.NoMemory) world got = Unit {0}
