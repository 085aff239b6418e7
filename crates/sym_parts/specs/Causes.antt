-- Why a step of a symbolic evaluation is refused.
use Rattle.std.specs.Prelude.{List}
use Rattle.term_arena.specs.Nodes.{Node}
use Rattle.term_arena.specs.Makes.{Cause, by_rule, term_cause, no_memory}
use Rattle.trace_plain.specs.declared.trace.FailKind.{FailKind}
use Rattle.sym_parts.specs.declared.faults.StepFault.{StepFault}
use Rattle.sym_parts.specs.declared.faults.StepFault.TheVariants as fault

-- the instruction fails, or a term is refused
abbrev pub step_cause : List Node → StepFault → Cause FailKind
step_cause nodes (fault.Fails kind) = by_rule kind
step_cause nodes (fault.Terms why) = term_cause nodes why
