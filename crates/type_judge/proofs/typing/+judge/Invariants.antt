use Rattle.std.proofs.Common.{◌≡◌, ◌+◌, ◌*◌, max, true, map, drop}
use Rattle.sail_syntax.specs.View.{tree, trees, choice_of, cases_of, step_of, steps_of}
use Rattle.type_rules.specs.Faults.{first_from}
use Rattle.type_rules.specs.Judge.{judge_rest, judge_joins, judge_others, judge_arms, judge_steps}
use Rattle.type_rules.specs.declared.scope.Ending.TheVariants as ending
use Rattle.type_names.specs.Borrowed.{maybe_type, maybe_fault}
use Rattle.type_steps.specs.Grown.{Grown, ending_at}
use Rattle.type_judge.proofs.typing.+judge.Given as goal

-- what is left is the whole
abbrev pub invariant-judge_chain-loop-part : goal.invariant-judge_chain-loop-part
invariant-judge_chain-loop-part l =
    record {
      first : first_from (maybe_fault l.best) (judge_rest l.globals l.here (trees (map tree (drop l.part-index l.rest))) (maybe_type l.got) l.locals).faults
          ≡ first_from (maybe_fault l.initial.best) (judge_rest l.globals l.here (trees (map tree l.rest)) (maybe_type l.got) l.fn.locals).faults;
      kept : l.locals ≡ l.fn.locals;
    }

abbrev pub invariant-judge_joins-loop-part : goal.invariant-judge_joins-loop-part
invariant-judge_joins-loop-part l =
    let here = judge_joins l.globals l.here (trees (map tree (drop l.part-index l.parts))) l.total l.all_known l.at (maybe_type l.want) l.locals in
    let whole = judge_joins l.globals l.here (trees (map tree l.parts)) 0 true l.at (maybe_type l.want) l.locals in
    record { answer : here.type ≡ whole.type; first : first_from (maybe_fault l.best) here.faults ≡ first_from (maybe_fault l.fn.best) whole.faults; kept : l.locals ≡ l.fn.locals }

abbrev pub invariant-judge_args-loop-arg : goal.invariant-judge_args-loop-arg
invariant-judge_args-loop-arg l =
    record {
      first : first_from (maybe_fault l.best) (judge_others l.globals l.here (trees (map tree (drop l.arg-index l.rest))) l.left (maybe_type l.one) l.locals).faults
          ≡ first_from (maybe_fault l.initial.best) (judge_others l.globals l.here (trees (map tree l.rest)) l.initial.left (maybe_type l.one) l.fn.locals).faults;
      kept : l.locals ≡ l.fn.locals;
    }

abbrev pub invariant-judge_arms-loop-arm : goal.invariant-judge_arms-loop-arm
invariant-judge_arms-loop-arm l =
    let here = judge_arms l.globals l.here (cases_of (map choice_of (drop l.arm-index l.arms))) (maybe_type l.on) (maybe_type l.fixed) l.locals in
    let whole = judge_arms l.globals l.here (cases_of (map choice_of l.arms)) (maybe_type l.on) (maybe_type l.want) l.locals in
    record { answer : here.type ≡ whole.type; first : first_from (maybe_fault l.best) here.faults ≡ first_from (maybe_fault l.fn.best) whole.faults; kept : l.locals ≡ l.fn.locals }

abbrev pub invariant-judge_steps-loop-i : goal.invariant-judge_steps-loop-i
invariant-judge_steps-loop-i l =
    let here = judge_steps l.globals l.here (steps_of (map step_of (drop l.i l.steps))) (ending_at l.ending) l.at (maybe_type l.want) l.locals in
    let whole = judge_steps l.globals l.here (steps_of (map step_of l.steps)) ending.Open l.at (maybe_type l.want) l.fn.locals in
    record { answer : here.type ≡ whole.type; first : first_from (maybe_fault l.best) here.faults ≡ first_from (maybe_fault l.fn.best) whole.faults; grown : Grown l.fn.locals l.locals }

abbrev pub decreases-judge : goal.decreases-judge
decreases-judge l = 4 * goal.size-judge l

abbrev pub decreases-judge_bits : goal.decreases-judge_bits
decreases-judge_bits l = 4 * goal.size-judge_bits l + 1

abbrev pub decreases-judge_chain : goal.decreases-judge_chain
decreases-judge_chain l = 4 * goal.size-judge_chain l + 2

abbrev pub decreases-judge_joins : goal.decreases-judge_joins
decreases-judge_joins l = 4 * goal.size-judge_joins l + 2

abbrev pub decreases-judge_args : goal.decreases-judge_args
decreases-judge_args l = 4 * goal.size-judge_args l + 1

abbrev pub decreases-judge_call : goal.decreases-judge_call
decreases-judge_call l = 4 * goal.size-judge_call l + 2

abbrev pub decreases-judge_arms : goal.decreases-judge_arms
decreases-judge_arms l = 4 * goal.size-judge_arms l + 1

abbrev pub decreases-judge_steps : goal.decreases-judge_steps
decreases-judge_steps l = 4 * goal.size-judge_steps l + 1

abbrev pub decreases-judge_step : goal.decreases-judge_step
decreases-judge_step l = 4 * goal.size-judge_step l

abbrev pub decreases-judge_value : goal.decreases-judge_value
decreases-judge_value l = 4 * goal.size-judge_value l + 1
