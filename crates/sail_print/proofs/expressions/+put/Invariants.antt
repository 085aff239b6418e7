use Rattle.std.proofs.Common.{◌≡◌, ◌+◌, ◌*◌, ◌++◌, map, drop}
use Rattle.sail_syntax.specs.View.{tree, trees, choice_of, cases_of, step_of, steps_of}
use Rattle.sail_text.specs.Expressions.{more_chain_text, more_arguments_text, more_arms_text, more_steps_text}
use Rattle.sail_print.proofs.Depths.{choice_depth}
use Rattle.sail_print.proofs.expressions.+put.Given as goal

-- what is written, and the text of what is left, are the whole
abbrev pub invariant-put_chain-loop-part : goal.invariant-put_chain-loop-part
invariant-put_chain-loop-part l =
    l.out.items ++ more_chain_text l.op (trees (map tree (drop l.part-index l.rest))) ≡ l.initial.out.items ++ more_chain_text l.op (trees (map tree l.rest))

abbrev pub invariant-put_arguments-loop-arg : goal.invariant-put_arguments-loop-arg
invariant-put_arguments-loop-arg l =
    l.out.items ++ more_arguments_text (trees (map tree (drop l.arg-index l.rest))) ≡ l.initial.out.items ++ more_arguments_text (trees (map tree l.rest))

abbrev pub invariant-put_arms-loop-arm : goal.invariant-put_arms-loop-arm
invariant-put_arms-loop-arm l =
    l.out.items ++ more_arms_text (cases_of (map choice_of (drop l.arm-index l.rest))) ≡ l.initial.out.items ++ more_arms_text (cases_of (map choice_of l.rest))

abbrev pub invariant-put_steps-loop-i : goal.invariant-put_steps-loop-i
invariant-put_steps-loop-i l =
    l.out.items ++ more_steps_text (steps_of (map step_of (drop l.i l.rest))) ≡ l.initial.out.items ++ more_steps_text (steps_of (map step_of l.rest))

abbrev pub decreases-put_expr : goal.decreases-put_expr
decreases-put_expr l = 4 * goal.size-put_expr l

abbrev pub decreases-put_enclosed : goal.decreases-put_enclosed
decreases-put_enclosed l = 4 * goal.size-put_enclosed l + 1

abbrev pub decreases-put_if : goal.decreases-put_if
decreases-put_if l = 4 * choice_depth l.test.now l.yes.now l.no.now + 2

abbrev pub decreases-put_chain : goal.decreases-put_chain
decreases-put_chain l = 4 * goal.size-put_chain l + 2

abbrev pub decreases-put_arguments : goal.decreases-put_arguments
decreases-put_arguments l = 4 * goal.size-put_arguments l + 1

abbrev pub decreases-put_arm : goal.decreases-put_arm
decreases-put_arm l = 4 * goal.size-put_arm l

abbrev pub decreases-put_arms : goal.decreases-put_arms
decreases-put_arms l = 4 * goal.size-put_arms l + 1

abbrev pub decreases-put_step : goal.decreases-put_step
decreases-put_step l = 4 * goal.size-put_step l

abbrev pub decreases-put_next : goal.decreases-put_next
decreases-put_next l = 4 * goal.size-put_next l + 1

abbrev pub decreases-put_steps : goal.decreases-put_steps
decreases-put_steps l = 4 * goal.size-put_steps l + 2
