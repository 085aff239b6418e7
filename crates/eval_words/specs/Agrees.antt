-- What a call of the evaluator answers.
use Rattle.std.specs.Prelude.{◌≡◌, List, [], Result, Ok, Err}
use Rattle.state_core.specs.World.{World, fault, lacks_answer}
use Rattle.sail_values.specs.declared.value.Value.{Value}
use Rattle.sail_values.specs.declared.value.Stop.{Stop}
use Rattle.sail_values.specs.declared.value.Stop.TheVariants as stop
use Rattle.sail_values.specs.declared.value.Outcome.{Outcome}
use Rattle.sail_values.specs.declared.value.Outcome.TheVariants as outcome
use Rattle.eval_rules.specs.Flow.{Out, gives, stops}
use Rattle.eval_rules.specs.Moments.{Moment, IsPassed}
use Rattle.eval_words.specs.Instr.{Ended, whole, cut}

-- how a call ends
abbrev pub outcome_of : Result Value Stop → Outcome
outcome_of (Ok v) = outcome.Value v
outcome_of (Err (stop.Fault kind at)) = outcome.Fault kind at
outcome_of (Err stop.NoAnswer) = outcome.NoAnswer
outcome_of (Err stop.NoMemory) = outcome.NoMemory

-- the answer and the world are those of the outcome of a call from outside, which has no locals; want of memory is free
abbrev pub Comes : Outcome → World → Out Value → Type 0
Comes (outcome.Value v) world out = out ≡ gives v [] world
Comes (outcome.Fault kind at) world out = out ≡ stops (fault kind at) world
Comes outcome.NoAnswer world out = out ≡ stops lacks_answer world
Comes outcome.NoMemory world out = Unit {0}

-- after want of memory the world is one that these moments pass from the first world on
abbrev pub EndsPassed : Outcome → World → World → List Moment → Type 0
EndsPassed (outcome.Value v) world start ms = Unit {0}
EndsPassed (outcome.Fault kind at) world start ms = Unit {0}
EndsPassed outcome.NoAnswer world start ms = Unit {0}
EndsPassed outcome.NoMemory world start ms = IsPassed world start ms

-- the answer and the world are those of the end of an instruction; want of memory is free
abbrev pub Ends : Outcome → World → Ended × World → Type 0
Ends (outcome.Value v) world ended = ended ≡ (whole, world)
Ends (outcome.Fault kind at) world ended = ended ≡ (cut (fault kind at), world)
Ends outcome.NoAnswer world ended = ended ≡ (cut lacks_answer, world)
Ends outcome.NoMemory world ended = Unit {0}
