use Rattle.std.proofs.Common.{◌≡◌, ◌≤◌, ◌-◌, drop, map, length, []}
use Rattle.sail_syntax.specs.View.{definition_of}
use Rattle.type_rules.specs.Faults.{first_from}
use Rattle.type_rules.specs.Program.{definitions_faults}
use Rattle.type_names.specs.Borrowed.{maybe_fault}
use Rattle.type_programs.proofs.definitions.judge_definitions.Given as goal

abbrev pub invariant-loop-here : goal.invariant-loop-here
invariant-loop-here l = record {
  within : l.here ≤ length l.defs;
  left : first_from (maybe_fault l.best) (definitions_faults l.globals (map definition_of (drop l.here l.defs)) l.above l.here)
      ≡ first_from (maybe_fault l.fn.best) (definitions_faults l.globals (map definition_of l.defs) [] 0);
}

abbrev pub decreases-loop-here : goal.decreases-loop-here
decreases-loop-here l = length l.defs - l.here
