use Rattle.std.proofs.Common.{◌≡◌, drop, true}
use Rattle.type_rules.specs.Faults.{first_from}
use Rattle.type_rules.specs.Judge.{judge_parts}
use Rattle.type_names.specs.Borrowed.{maybe_type, maybe_fault}
use Rattle.type_steps.proofs.patterns.judge_parts.Given as goal

abbrev pub invariant-loop-part : goal.invariant-loop-part
invariant-loop-part l =
    first_from (maybe_fault l.best) (judge_parts l.globals (drop l.part-index l.parts) l.total l.are_parts l.at (maybe_type l.on)).faults
    ≡ first_from (maybe_fault l.fn.best) (judge_parts l.globals l.parts 0 true l.at (maybe_type l.on)).faults
