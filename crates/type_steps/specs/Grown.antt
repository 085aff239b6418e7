-- Locals on top of others, and what is borrowed beside them.
use Rattle.std.specs.Prelude.{◌≡◌, ◌≤◌, ◌-◌, List, length, drop, Option, Some, None}
use Rattle.type_rules.specs.declared.scope.Local.{Local}
use Rattle.type_rules.specs.declared.scope.Target.{Target}
use Rattle.type_rules.specs.declared.scope.Target.TheVariants as target
use Rattle.type_rules.specs.declared.scope.Ending.{Ending}
use Rattle.type_rules.specs.declared.scope.Ending.TheVariants as ending
use Rattle.type_names.specs.Borrowed.{maybe_type}
use Rattle.type_steps.specs.declared.names.TargetRef.{TargetRef}
use Rattle.type_steps.specs.declared.names.TargetRef.TheVariants as own_target
use Rattle.type_steps.specs.declared.statements.EndingRef.{EndingRef}
use Rattle.type_steps.specs.declared.statements.EndingRef.TheVariants as own_ending

-- some newer ones on top
pub record Grown (old new : List Local) : Type 0 where
  pub more : length old ≤ length new
  pub back : drop (length new - length old) new ≡ old

-- what may be assigned to a name
abbrev pub target_at : TargetRef → Target
target_at (own_target.Takes t) = target.Takes (maybe_type t)
target_at own_target.Refuses = target.Refuses
target_at own_target.Missing = target.Missing

-- how a block has ended so far
abbrev pub ending_at : EndingRef → Ending
ending_at own_ending.Open = ending.Open
ending_at (own_ending.Value t) = ending.Value (maybe_type t)
