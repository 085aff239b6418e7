use Rattle.std.proofs.Common.{◌≡◌, [], map, reverse, sym, subst, rules}
use Rattle.sail_syntax.specs.View.{definition_of, program_of}
use Rattle.eval_rules.specs.Eval.{call_of, called, calls_of, setting_of}
use Rattle.eval_rules.specs.Moments.{called_moments, moments_of_calls, moments_of}
use Rattle.eval_parts.specs.Worlds.{Agrees, LeavesPassed}
use Rattle.eval_words.specs.Agrees.{Comes, EndsPassed}
use Rattle.eval_words.proofs.Ending.{comes, comes_passed}
use Rattle.eval_words.proofs.run.run.Goals as goal

pub returns-clause-done : goal.returns-clause-done
returns-clause-done c =
    let here = setting_of (program_of c.args.typed.now) c.args.devs.now.ranges in
    let r = c.call_thing-answer.result in
    let w = c.call_thing-answer.new.world in
    let vs = c.args.args.now in
    let same : c.as_slice.result.now ≡ c.args.typed.now.defs = search rules in
    let agrees =
    subst (λ t. Agrees r [] w (called here (calls_of here (reverse (map definition_of c.args.typed.now.defs))) t 0 vs [] c.args.world.now)) c.thing-thing.ensures
    (subst (λ ds. Agrees r [] w (called here (calls_of here (reverse (map definition_of ds))) c.thing-thing.result 0 vs [] c.args.world.now)) same (c.call_thing-answer.ensures.value [])) in
    let out = call_of (program_of c.args.typed.now) c.args.devs.now.ranges c.args.name.now 0 vs c.args.world.now in
    subst (λ o. Comes o w out) (sym c.outcome_of.ensures) (comes r w out agrees)

pub returns-clause-passed : goal.returns-clause-passed
returns-clause-passed c =
    let defs = program_of c.args.typed.now in
    let here = setting_of defs c.args.devs.now.ranges in
    let r = c.call_thing-answer.result in
    let w = c.call_thing-answer.new.world in
    let start = c.args.world.now in
    let vs = c.args.args.now in
    let same : c.as_slice.result.now ≡ c.args.typed.now.defs = search rules in
    let passed =
    subst (λ t. LeavesPassed r w start (called_moments here (moments_of_calls here (reverse defs)) t vs [] start)) c.thing-thing.ensures
    (subst (λ ds. LeavesPassed r w start (called_moments here (moments_of_calls here (reverse (map definition_of ds))) c.thing-thing.result vs [] start)) same (c.call_thing-answer.ensures.passed [])) in
    subst (λ o. EndsPassed o w start (moments_of defs c.args.devs.now.ranges c.args.name.now vs start)) (sym c.outcome_of.ensures)
    (comes_passed r w start (moments_of defs c.args.devs.now.ranges c.args.name.now vs start) passed)
