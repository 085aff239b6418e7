use Rattle.std.proofs.Common.{◌≡◌, ◌+◌, ◌*◌, ◌-◌, List, [], map, drop}
use Rattle.eval_rules.specs.Eval.{eval_chain, eval_rest, eval_all, eval_arms, eval_steps, turns, turn}
use Rattle.eval_rules.specs.Moments.{Passing, chain_moments, rest_moments, args_moments, arms_moments, steps_moments, turns_moments}
use Rattle.eval_rules.proofs.Passed.{IsPart}
use Rattle.eval_trees.specs.Inside.{here_now, calls_now, moments_now, turn_moments}
use Rattle.sail_syntax.specs.View.{tree, trees, choice_of, cases_of, step_of, steps_of}
use Rattle.sail_values.specs.declared.value.Value.{Value}
use Rattle.sail_values.specs.declared.value.Value.TheVariants as value
use Rattle.state_core.specs.State.{widths_of}
use Rattle.eval_trees.proofs.Weight.{weight}
use Rattle.eval_trees.proofs.trees.+eval.Given as goal

abbrev pub invariant-eval_chain-loop-part : goal.invariant-eval_chain-loop-part
invariant-eval_chain-loop-part l =
    let here = here_now l.text in
    let calls = calls_now l.text in
    let during = moments_now l.text in
    record {
      value : eval_rest here calls (trees (map tree (drop l.part-index l.rest))) l.op l.value l.locals l.world ≡ eval_chain here calls (trees (map tree l.fn.parts)) l.op l.fn.locals l.fn.world;
      widths : widths_of l.world.state ≡ widths_of l.fn.world.state;
      passed : IsPart l.world (rest_moments here calls during (trees (map tree (drop l.part-index l.rest))) l.op l.value l.locals l.world) l.fn.world (chain_moments here calls during (trees (map tree l.fn.parts)) l.op l.fn.locals l.fn.world);
    }

abbrev pub invariant-eval_all-loop-arg : goal.invariant-eval_all-loop-arg
invariant-eval_all-loop-arg l =
    let here = here_now l.text in
    let calls = calls_now l.text in
    let during = moments_now l.text in
    record {
      value : eval_all here calls (trees (map tree (drop l.arg-index l.args))) l.values l.locals l.world ≡ eval_all here calls (trees (map tree l.args)) [] l.fn.locals l.fn.world;
      widths : widths_of l.world.state ≡ widths_of l.fn.world.state;
      passed : (call : List Value → Passing) → IsPart l.world (args_moments here calls during (trees (map tree (drop l.arg-index l.args))) l.values call l.locals l.world) l.fn.world (args_moments here calls during (trees (map tree l.args)) [] call l.fn.locals l.fn.world);
    }

abbrev pub invariant-eval_arms-loop-arm : goal.invariant-eval_arms-loop-arm
invariant-eval_arms-loop-arm l =
    let here = here_now l.text in
    let calls = calls_now l.text in
    let during = moments_now l.text in
    record {
      value : eval_arms here calls (cases_of (map choice_of (drop l.arm-index l.arms))) l.at l.value l.locals l.world ≡ eval_arms here calls (cases_of (map choice_of l.arms)) l.at l.value l.fn.locals l.fn.world;
      widths : widths_of l.world.state ≡ widths_of l.fn.world.state;
      passed : IsPart l.world (arms_moments here calls during (cases_of (map choice_of (drop l.arm-index l.arms))) l.value l.locals l.world) l.fn.world (arms_moments here calls during (cases_of (map choice_of l.arms)) l.value l.fn.locals l.fn.world);
    }

abbrev pub invariant-eval_steps-loop-stmt : goal.invariant-eval_steps-loop-stmt
invariant-eval_steps-loop-stmt l =
    let here = here_now l.text in
    let calls = calls_now l.text in
    let during = moments_now l.text in
    record {
      value : eval_steps here calls (steps_of (map step_of (drop l.stmt-index l.steps))) l.last l.locals l.world ≡ eval_steps here calls (steps_of (map step_of l.steps)) value.Unit l.fn.locals l.fn.world;
      widths : widths_of l.world.state ≡ widths_of l.fn.world.state;
      passed : IsPart l.world (steps_moments here calls during (steps_of (map step_of (drop l.stmt-index l.steps))) l.locals l.world) l.fn.world (steps_moments here calls during (steps_of (map step_of l.steps)) l.fn.locals l.fn.world);
    }

abbrev pub invariant-eval_turns-loop-i : goal.invariant-eval_turns-loop-i
invariant-eval_turns-loop-i l =
    let here = here_now l.text in
    let calls = calls_now l.text in
    let during = moments_now l.text in
    record {
      value : turns (l.to + 1 - l.i) l.i (turn here calls l.var (tree l.body)) l.locals l.world ≡ turns (l.to + 1 - l.from) l.from (turn here calls l.var (tree l.body)) l.fn.locals l.fn.world;
      widths : widths_of l.world.state ≡ widths_of l.fn.world.state;
      passed : IsPart l.world (turns_moments (l.to + 1 - l.i) l.i (turn here calls l.var (tree l.body)) (turn_moments here calls during l.var (tree l.body)) l.locals l.world) l.fn.world (turns_moments (l.to + 1 - l.from) l.from (turn here calls l.var (tree l.body)) (turn_moments here calls during l.var (tree l.body)) l.fn.locals l.fn.world);
    }

abbrev pub decreases-call_last : goal.decreases-call_last
decreases-call_last l = weight l.text.now.defs.now + 1

abbrev pub decreases-call_function : goal.decreases-call_function
decreases-call_function l = weight l.text.now.defs.now + 2

abbrev pub decreases-call_thing : goal.decreases-call_thing
decreases-call_thing l = weight l.text.now.defs.now + 3

abbrev pub decreases-eval_bits : goal.decreases-eval_bits
decreases-eval_bits l = weight l.text.now.defs.now + 4 * goal.size-eval_bits l

abbrev pub decreases-eval : goal.decreases-eval
decreases-eval l = weight l.text.now.defs.now + 4 * goal.size-eval l + 1

abbrev pub decreases-eval_choice : goal.decreases-eval_choice
decreases-eval_choice l = weight l.text.now.defs.now + 4 * goal.size-eval_choice l

abbrev pub decreases-eval_act : goal.decreases-eval_act
decreases-eval_act l = weight l.text.now.defs.now + 4 * goal.size-eval_act l

abbrev pub decreases-eval_all : goal.decreases-eval_all
decreases-eval_all l = weight l.text.now.defs.now + 4 * goal.size-eval_all l + 2

abbrev pub decreases-eval_arms : goal.decreases-eval_arms
decreases-eval_arms l = weight l.text.now.defs.now + 4 * goal.size-eval_arms l + 2

abbrev pub decreases-eval_chain : goal.decreases-eval_chain
decreases-eval_chain l = weight l.text.now.defs.now + 4 * goal.size-eval_chain l + 2

abbrev pub decreases-eval_step : goal.decreases-eval_step
decreases-eval_step l = weight l.text.now.defs.now + 4 * goal.size-eval_step l

abbrev pub decreases-eval_steps : goal.decreases-eval_steps
decreases-eval_steps l = weight l.text.now.defs.now + 4 * goal.size-eval_steps l + 2

abbrev pub decreases-eval_turns : goal.decreases-eval_turns
decreases-eval_turns l = weight l.text.now.defs.now + 4 * goal.size-eval_turns l + 2
