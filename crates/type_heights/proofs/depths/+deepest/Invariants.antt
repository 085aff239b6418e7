use Rattle.std.proofs.Common.{◌≡◌, ◌+◌, ◌*◌, max, map, drop}
use Rattle.sail_syntax.specs.View.{tree, trees, choice_of, cases_of, step_of, steps_of}
use Rattle.type_rules.specs.Heights.{deepest_all, deepest_arms, deepest_steps}
use Rattle.type_heights.proofs.Parts.{choice_depth}
use Rattle.type_heights.proofs.depths.+deepest.Given as goal

-- what is left, with what was found, is the whole
abbrev pub invariant-deepest_all-loop-part : goal.invariant-deepest_all-loop-part
invariant-deepest_all-loop-part l = max l.most (deepest_all l.known (trees (map tree (drop l.part-index l.parts)))) ≡ deepest_all l.known (trees (map tree l.parts))

abbrev pub invariant-deepest_arms-loop-arm : goal.invariant-deepest_arms-loop-arm
invariant-deepest_arms-loop-arm l = max l.most (deepest_arms l.known (cases_of (map choice_of (drop l.arm-index l.arms)))) ≡ deepest_arms l.known (cases_of (map choice_of l.arms))

abbrev pub invariant-deepest_steps-loop-step : goal.invariant-deepest_steps-loop-step
invariant-deepest_steps-loop-step l = max l.most (deepest_steps l.known (steps_of (map step_of (drop l.step-index l.steps)))) ≡ deepest_steps l.known (steps_of (map step_of l.steps))

abbrev pub decreases-deepest : goal.decreases-deepest
decreases-deepest l = 4 * goal.size-deepest l

abbrev pub decreases-deepest_all : goal.decreases-deepest_all
decreases-deepest_all l = 4 * goal.size-deepest_all l + 1

abbrev pub decreases-deepest_arms : goal.decreases-deepest_arms
decreases-deepest_arms l = 4 * goal.size-deepest_arms l + 1

abbrev pub decreases-deepest_steps : goal.decreases-deepest_steps
decreases-deepest_steps l = 4 * goal.size-deepest_steps l + 1

abbrev pub decreases-deepest_step : goal.decreases-deepest_step
decreases-deepest_step l = 4 * goal.size-deepest_step l

abbrev pub decreases-deepest_if : goal.decreases-deepest_if
decreases-deepest_if l = 4 * choice_depth l.test.now l.yes.now l.no.now + 1
