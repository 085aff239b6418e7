use Rattle.std.proofs.Common.{◌≡◌, ◌<◌, ◌+◌, ◌-◌, [], ◌∷◌, Some, take, drop, map, length, ap, refl, sym, subst, ◌∙◌, arith}
use Rattle.std.specs.Prelude.{Err}
use Rattle.sail_syntax.specs.Tree.{case}
use Rattle.sail_syntax.specs.View.{definition_of, tree, trees, choice_of, cases_of, step_of, steps_of}
use Rattle.sail_syntax.specs.declared.tree.Node.TheVariants as node
use Rattle.sail_names.specs.Things.{find_thing}
use Rattle.sail_values.specs.declared.value.Local.TheVariants as local
use Rattle.sail_values.specs.declared.value.Value.TheVariants as values
use Rattle.eval_rules.specs.Flow.{gives, leaves}
use Rattle.eval_rules.specs.Eval.{eval, eval_rest, eval_arms, eval_all, turns, turn}
use Rattle.eval_rules.specs.Moments.{Passing, step_moments, chain_moments, rest_moments, args_moments, turns_moments, called_moments}
use Rattle.eval_rules.proofs.Passed.{IsPart, part_whole, part_of_part}
use Rattle.eval_parts.specs.Worlds.{Agrees, LeavesPassed}
use Rattle.eval_parts.proofs.Passing.{handed_agrees, handed_passed, start_passed, world_passed, result_passed}
use Rattle.eval_trees.specs.Inside.{here_now, calls_now, moments_now, turn_moments, is_function_definition}
use Rattle.eval_trees.proofs.CallLemmas.{last_is_other}
use Rattle.eval_trees.proofs.MomentLemmas.{last_upto_moments}
use Rattle.eval_trees.proofs.Rests.{front, first_rest, ends_within, chain_rest, rest_rest, args_rest, arms_rest, arms_fit, steps_rest, turn_gives, turns_rest}
use Rattle.eval_trees.proofs.Parts.{update_first, update_after, choose_other, cases_first, cases_after, assign_first, call_whole, call_after, turns_whole, chain_first, chain_after, rest_first, rest_after, args_first, args_after, arms_over, arms_body, steps_first, steps_after, turns_first, turns_after, if_first, if_one, binding_whole, reached_passed}
use Rattle.eval_trees.proofs.Shown.{tree_call, tree_update, tree_choose, tree_cases, tree_foreach, tree_assign, choice_is}
use Rattle.eval_trees.proofs.trees.+eval.Goals as goal

pub call_last-returns-in-Order-clause-value : goal.call_last-returns-in-Order-clause-value
call_last-returns-in-Order-clause-value c = λ c'. λ locals.
    last_is_other (here_now c'.args.text.now) c'.args.text.now.defs.now c'.last-item.result c'.args.args.now c'.in-len1-up.len_at_least c'.last-item.is
    (ap (λ d. is_function_definition (definition_of d)) c'.in-Order.is) locals c'.args.world.now

pub call_last-returns-in-Register-clause-value : goal.call_last-returns-in-Register-clause-value
call_last-returns-in-Register-clause-value c = λ c'. λ locals.
    last_is_other (here_now c'.args.text.now) c'.args.text.now.defs.now c'.last-item.result c'.args.args.now c'.in-len1-up.len_at_least c'.last-item.is
    (ap (λ d. is_function_definition (definition_of d)) c'.in-Register.is) locals c'.args.world.now

pub call_last-returns-in-Enum-clause-value : goal.call_last-returns-in-Enum-clause-value
call_last-returns-in-Enum-clause-value c = λ c'. λ locals.
    last_is_other (here_now c'.args.text.now) c'.args.text.now.defs.now c'.last-item.result c'.args.args.now c'.in-len1-up.len_at_least c'.last-item.is
    (ap (λ d. is_function_definition (definition_of d)) c'.in-Enum.is) locals c'.args.world.now

pub call_last-returns-in-Val-clause-value : goal.call_last-returns-in-Val-clause-value
call_last-returns-in-Val-clause-value c = λ c'. λ locals.
    last_is_other (here_now c'.args.text.now) c'.args.text.now.defs.now c'.last-item.result c'.args.args.now c'.in-len1-up.len_at_least c'.last-item.is
    (ap (λ d. is_function_definition (definition_of d)) c'.in-Val.is) locals c'.args.world.now

-- ---- moments

pub eval-returns-in_err-values-in-Call-clause-passed : goal.eval-returns-in_err-values-in-Call-clause-passed
eval-returns-in_err-values-in-Call-clause-passed c = λ c'.
    let text = c'.args.text.now in
    let e = c'.args.e.now in
    let is = tree_call e c'.in-Call.name c'.as_slice-in-Call.result.now (c'.in-Call.is ∙ ap (node.Call c'.in-Call.name) (sym c'.as_slice-in-Call.ensures)) in
    handed_passed (call_whole text c'.args.locals.now c'.args.world.now (tree e) _ e.at c'.in-Call.name is) c'.from_residual.result c'.in_err-values-in-Call.field-0.0 c'.eval_all.new.world c'.from_residual.ensures
    (c'.in_err-values-in-Call.ensures.passed (called_moments (here_now text) (moments_now text) (find_thing c'.in-Call.name (here_now text).things)))

pub eval-returns-in_ok-values-in-Call-clause-passed : goal.eval-returns-in_ok-values-in-Call-clause-passed
eval-returns-in_ok-values-in-Call-clause-passed c = λ c'.
    let text = c'.args.text.now in
    let e = c'.args.e.now in
    let is = tree_call e c'.in-Call.name c'.as_slice-in-Call.result.now (c'.in-Call.is ∙ ap (node.Call c'.in-Call.name) (sym c'.as_slice-in-Call.ensures)) in
    result_passed (call_after text c'.args.locals.now c'.args.world.now c'.eval_all.new.locals c'.eval_all.new.world (tree e) _ e.at c'.in-Call.name c'.thing-thing.result c'.in_ok-values-in-Call.values c'.as_slice-in-Call-2.result.now is
    (c'.thing-thing.ensures ∙ ap (λ n. find_thing n (here_now text).things) c'.bytes-in-Call.ensures) c'.as_slice-in-Call-2.ensures c'.in_ok-values-in-Call.ensures.value)
    c'.call_thing.result c'.call_thing.new.world (c'.call_thing.ensures.passed c'.eval_all.new.locals)

pub eval_act-returns-in_err-value-in-Assign-clause-passed : goal.eval_act-returns-in_err-value-in-Assign-clause-passed
eval_act-returns-in_err-value-in-Assign-clause-passed c = λ c'.
    let e = c'.args.e.now in
    let is = tree_assign e c'.get-in-Assign.result.now c'.in-Assign.to (c'.in-Assign.is ∙ ap (node.Assign c'.in-Assign.to) (sym c'.get-in-Assign.ensures)) in
    handed_passed (assign_first c'.args.text.now c'.args.locals.now c'.args.world.now (tree e) _ e.at c'.in-Assign.to is) c'.from_residual-in_err-value-in-Assign.result c'.in_err-value-in-Assign.field-0.0 c'.eval-in-Assign.new.world
    c'.from_residual-in_err-value-in-Assign.ensures c'.in_err-value-in-Assign.ensures.passed

pub eval_all-loop-arg-init : goal.eval_all-loop-arg-init
eval_all-loop-arg-init c = λ c'.
    let text = c'.args.text.now in
    let l = c'.args.locals.now in
    let w = c'.args.world.now in
    let args = c'.args.args.now in
    record {
      value = ap (λ vs. eval_all (here_now text) (calls_now text) (trees (map tree args)) vs l w) c'.new-values.ensures;
      widths = refl;
      passed = λ call. subst (λ vs. IsPart w (args_moments (here_now text) (calls_now text) (moments_now text) (trees (map tree args)) vs call l w) w (args_moments (here_now text) (calls_now text) (moments_now text) (trees (map tree args)) [] call l w)) (sym c'.new-values.ensures)
          (part_whole w (args_moments (here_now text) (calls_now text) (moments_now text) (trees (map tree args)) [] call l w));
    }

pub eval_all-returns-in_err-value-clause-passed : goal.eval_all-returns-in_err-value-clause-passed
eval_all-returns-in_err-value-clause-passed c = λ c'.
    let next = front c'.args.args.now c'.loop-arg.arg-index c'.arg-item.result c'.loop-arg-test.true c'.arg-item.is in
    λ call. handed_passed
    (part_of_part (args_first c'.args.text.now c'.loop-arg.locals c'.loop-arg.world call _ _ (tree c'.arg-item.result) c'.loop-arg.values (ap (λ xs. trees (map tree xs)) next)) (c'.loop-arg.invariant.passed call))
    c'.from_residual.result c'.in_err-value.field-0.0 c'.eval.new.world c'.from_residual.ensures c'.in_err-value.ensures.passed

pub eval_all-returns-in_err-push-clause-passed : goal.eval_all-returns-in_err-push-clause-passed
eval_all-returns-in_err-push-clause-passed c = λ c'.
    let args = c'.args.args.now in
    let i = c'.loop-arg.arg-index in
    let next = front args i c'.arg-item.result c'.loop-arg-test.true c'.arg-item.is in
    λ call. start_passed (part_of_part (args_after c'.args.text.now c'.loop-arg.locals c'.loop-arg.world call c'.eval.new.locals c'.eval.new.world _ (trees (map tree (drop (i + 1) args))) (tree c'.arg-item.result) c'.loop-arg.values _ c'.in_ok-value.value
    (ap (λ xs. trees (map tree xs)) next) refl c'.in_ok-value.ensures.value) (c'.loop-arg.invariant.passed call)) c'.from_residual-in_err-push.result

pub eval_all-loop-arg-preserved : goal.eval_all-loop-arg-preserved
eval_all-loop-arg-preserved c = λ c'.
    let text = c'.args.text.now in
    let args = c'.args.args.now in
    let i = c'.loop-arg.arg-index in
    let k = c'.loop-arg.locals in
    let x = c'.loop-arg.world in
    let next = front args i c'.arg-item.result c'.loop-arg-test.true c'.arg-item.is in
    record {
      value = args_rest text k x c'.eval.new.locals c'.eval.new.world _ (trees (map tree (drop (i + 1) args))) (tree c'.arg-item.result) c'.loop-arg.values c'.push.new.self c'.in_ok-value.value
          (ap (λ xs. trees (map tree xs)) next) c'.in_ok-push.ensures.ok c'.in_ok-value.ensures.value ∙ c'.loop-arg.invariant.value;
      widths = c'.eval.ensures.widths ∙ c'.loop-arg.invariant.widths;
      passed = λ call. part_of_part (args_after text k x call c'.eval.new.locals c'.eval.new.world _ (trees (map tree (drop (i + 1) args))) (tree c'.arg-item.result) c'.loop-arg.values c'.push.new.self c'.in_ok-value.value
          (ap (λ xs. trees (map tree xs)) next) c'.in_ok-push.ensures.ok c'.in_ok-value.ensures.value) (c'.loop-arg.invariant.passed call);
    }

pub eval_arms-returns-in_err-enter-clause-passed : goal.eval_arms-returns-in_err-enter-clause-passed
eval_arms-returns-in_err-enter-clause-passed c = λ c'.
    start_passed c'.loop-arm.invariant.passed c'.from_residual.result

pub eval_arms-returns-in_err-result-clause-passed : goal.eval_arms-returns-in_err-result-clause-passed
eval_arms-returns-in_err-result-clause-passed c = λ c'.
    let arms = c'.args.arms.now in
    let i = c'.loop-arm.arm-index in
    let x = c'.loop-arm.world in
    let next = front arms i c'.arm-item.result c'.loop-arm-test.true c'.arm-item.is in
    let rest = cases_of (map choice_of (drop (i + 1) arms)) in
    let body = tree c'.arm-item.result.body in
    let same = ap (λ xs. cases_of (map choice_of xs)) next ∙ ap (λ a. case a rest) (choice_is c'.arm-item.result) in
    let fits = sym c'.fits.ensures ∙ c'.if-fits.true in
    handed_passed
    (part_of_part (arms_body c'.args.text.now c'.loop-arm.locals x c'.enter.new.locals x _ rest c'.arm-item.result.pattern body c'.args.value values.Unit same fits (ap (λ m. gives values.Unit m x) (sym c'.in_ok-enter.ensures))) c'.loop-arm.invariant.passed)
    c'.from_residual-in_err-result.result c'.in_err-result.field-0.0 c'.eval.new.world c'.from_residual-in_err-result.ensures c'.in_err-result.ensures.passed

pub eval_arms-returns-in_err-result-clause-value : goal.eval_arms-returns-in_err-result-clause-value
eval_arms-returns-in_err-result-clause-value c = λ c'.
    let text = c'.args.text.now in
    let arms = c'.args.arms.now in
    let v = c'.args.value in
    let i = c'.loop-arm.arm-index in
    let k = c'.loop-arm.locals in
    let x = c'.loop-arm.world in
    let next = front arms i c'.arm-item.result c'.loop-arm-test.true c'.arm-item.is in
    let rest = cases_of (map choice_of (drop (i + 1) arms)) in
    let body = tree c'.arm-item.result.body in
    let same = ap (λ xs. cases_of (map choice_of xs)) next ∙ ap (λ a. case a rest) (choice_is c'.arm-item.result) in
    let fits = sym c'.fits.ensures ∙ c'.if-fits.true in
    let why = c'.in_err-result.field-0.0 in
    handed_agrees c'.from_residual-in_err-result.result why c'.eval.new.locals c'.eval.new.world (eval_arms (here_now text) (calls_now text) (cases_of (map choice_of arms)) c'.args.at v c'.args.locals.now c'.args.world.now) c'.from_residual-in_err-result.ensures
    (subst (λ o. Agrees (Err why) c'.eval.new.locals c'.eval.new.world o)
    (arms_fit text k x c'.enter.new.locals _ rest c'.arm-item.result.pattern body c'.args.at v same fits c'.in_ok-enter.ensures ∙ c'.loop-arm.invariant.value)
    (ends_within why c'.eval.new.locals c'.eval.new.locals (length k) c'.eval.new.world (eval (here_now text) (calls_now text) body c'.enter.new.locals x) c'.in_err-result.ensures.value))

pub eval_arms-returns-then-fits-clause-value : goal.eval_arms-returns-then-fits-clause-value
eval_arms-returns-then-fits-clause-value c = λ c'.
    let arms = c'.args.arms.now in
    let i = c'.loop-arm.arm-index in
    let k = c'.loop-arm.locals in
    let next = front arms i c'.arm-item.result c'.loop-arm-test.true c'.arm-item.is in
    let rest = cases_of (map choice_of (drop (i + 1) arms)) in
    let body = tree c'.arm-item.result.body in
    let same = ap (λ xs. cases_of (map choice_of xs)) next ∙ ap (λ a. case a rest) (choice_is c'.arm-item.result) in
    let fits = sym c'.fits.ensures ∙ c'.if-fits.true in
    let y = c'.eval.new.world in
    sym (arms_fit c'.args.text.now k c'.loop-arm.world c'.enter.new.locals _ rest c'.arm-item.result.pattern body c'.args.at c'.args.value same fits c'.in_ok-enter.ensures ∙ c'.loop-arm.invariant.value)
    ∙ ap (leaves (length k)) c'.in_ok-result.ensures.value
    ∙ ap (λ n. gives c'.in_ok-result.result (drop (length c'.eval.new.locals - n) c'.eval.new.locals) y) (sym c'.depth-depth.ensures)
    ∙ ap (λ m. gives c'.in_ok-result.result m y) (sym c'.leave.ensures)

pub eval_arms-loop-arm-preserved : goal.eval_arms-loop-arm-preserved
eval_arms-loop-arm-preserved c = λ c'.
    let text = c'.args.text.now in
    let arms = c'.args.arms.now in
    let v = c'.args.value in
    let i = c'.loop-arm.arm-index in
    let k = c'.loop-arm.locals in
    let x = c'.loop-arm.world in
    let next = front arms i c'.arm-item.result c'.loop-arm-test.true c'.arm-item.is in
    let rest = cases_of (map choice_of (drop (i + 1) arms)) in
    let p = c'.arm-item.result.pattern in
    let body = tree c'.arm-item.result.body in
    let same = ap (λ xs. cases_of (map choice_of xs)) next ∙ ap (λ a. case a rest) (choice_is c'.arm-item.result) in
    let fails = sym c'.fits.ensures ∙ c'.if-fits.false in
    record {
      value = arms_rest text k x _ rest p body c'.args.at v same fails ∙ c'.loop-arm.invariant.value;
      widths = c'.loop-arm.invariant.widths;
      passed = part_of_part (arms_over text k x _ rest p body v same fails) c'.loop-arm.invariant.passed;
    }

pub eval_bits-returns-in_err-value-in-With-clause-passed : goal.eval_bits-returns-in_err-value-in-With-clause-passed
eval_bits-returns-in_err-value-in-With-clause-passed c = λ c'.
    let e = c'.args.e.now in
    let of = c'.get-in-With.result.now in
    let by = c'.in-With.by in
    let is = tree_update e of by c'.in-With.hi c'.in-With.lo (c'.in-With.is ∙ ap (λ o. node.With o c'.in-With.hi c'.in-With.lo by) (sym c'.get-in-With.ensures)) in
    handed_passed (update_first c'.args.text.now c'.args.locals.now c'.args.world.now (tree e) (tree of) (tree by) e.at c'.in-With.hi c'.in-With.lo is) c'.from_residual-in_err-value-in-With.result c'.in_err-value-in-With.field-0.0 c'.eval-in-With.new.world
    c'.from_residual-in_err-value-in-With.ensures c'.in_err-value-in-With.ensures.passed

pub eval_bits-returns-in_err-new-in-With-clause-passed : goal.eval_bits-returns-in_err-new-in-With-clause-passed
eval_bits-returns-in_err-new-in-With-clause-passed c = λ c'.
    let e = c'.args.e.now in
    let of = c'.get-in-With.result.now in
    let by = c'.get-in-With-2.result.now in
    let is = tree_update e of by c'.in-With.hi c'.in-With.lo
    (c'.in-With.is ∙ ap (λ o. node.With o c'.in-With.hi c'.in-With.lo c'.in-With.by) (sym c'.get-in-With.ensures) ∙ ap (node.With of c'.in-With.hi c'.in-With.lo) (sym c'.get-in-With-2.ensures)) in
    handed_passed (update_after c'.args.text.now c'.args.locals.now c'.args.world.now c'.eval-in-With.new.locals c'.eval-in-With.new.world (tree e) (tree of) (tree by) e.at c'.in-With.hi c'.in-With.lo c'.in_ok-value-in-With.value is c'.in_ok-value-in-With.ensures.value)
    c'.from_residual-in_err-new-in-With.result c'.in_err-new-in-With.field-0.0 c'.eval-in-With-2.new.world c'.from_residual-in_err-new-in-With.ensures c'.in_err-new-in-With.ensures.passed

pub eval_chain-returns-in_err-value-in-len1-up-clause-passed : goal.eval_chain-returns-in_err-value-in-len1-up-clause-passed
eval_chain-returns-in_err-value-in-len1-up-clause-passed c = λ c'.
    let parts = c'.args.parts.now in
    let others = take (length parts - 1) (drop 1 parts) in
    let first = c'.first-item.result in
    let split = ap (λ xs. trees (map tree xs)) (first_rest parts first c'.in-len1-up.len_at_least c'.first-item.is) in
    handed_passed (chain_first c'.args.text.now c'.args.locals.now c'.args.world.now (trees (map tree parts)) (trees (map tree others)) (tree first) c'.args.op split)
    c'.from_residual.result c'.in_err-value-in-len1-up.field-0.0 c'.eval.new.world c'.from_residual.ensures c'.in_err-value-in-len1-up.ensures.passed

pub eval_chain-loop-part-init : goal.eval_chain-loop-part-init
eval_chain-loop-part-init c = λ c'.
    let text = c'.args.text.now in
    let l = c'.args.locals.now in
    let w = c'.args.world.now in
    let parts = c'.args.parts.now in
    let op = c'.args.op in
    let others = take (length parts - 1) (drop 1 parts) in
    let first = c'.first-item.result in
    let split = ap (λ xs. trees (map tree xs)) (first_rest parts first c'.in-len1-up.len_at_least c'.first-item.is) in
    let m = c'.eval.new.locals in
    let x = c'.eval.new.world in
    let v = c'.in_ok-value-in-len1-up.value in
    record {
      value = chain_rest text l w m x (trees (map tree parts)) (trees (map tree others)) (tree first) op v split c'.in_ok-value-in-len1-up.ensures.value;
      widths = c'.eval.ensures.widths;
      passed = chain_after text l w m x (trees (map tree parts)) (trees (map tree others)) (tree first) op v split c'.in_ok-value-in-len1-up.ensures.value;
    }

pub eval_chain-returns-in_err-next-in-len1-up-clause-passed : goal.eval_chain-returns-in_err-next-in-len1-up-clause-passed
eval_chain-returns-in_err-next-in-len1-up-clause-passed c = λ c'.
    let others = take (length c'.args.parts.now - 1) (drop 1 c'.args.parts.now) in
    let goes_on = sym c'.decides.ensures ∙ c'.if-decides.false in
    let i = c'.loop-part.part-index in
    let next = front others i c'.part-item.result c'.loop-part-test.true c'.part-item.is in
    let same = ap (λ xs. trees (map tree xs)) next in
    let left = trees (map tree (drop i others)) in
    let rest = trees (map tree (drop (i + 1) others)) in
    let t = tree c'.part-item.result in
    handed_passed (part_of_part (rest_first c'.args.text.now c'.loop-part.locals c'.loop-part.world left rest t c'.args.op c'.loop-part.value same goes_on) c'.loop-part.invariant.passed)
    c'.from_residual-in_err-next-in-len1-up.result c'.in_err-next-in-len1-up.field-0.0 c'.eval-in-loop-part.new.world c'.from_residual-in_err-next-in-len1-up.ensures c'.in_err-next-in-len1-up.ensures.passed

pub eval_chain-loop-part-preserved : goal.eval_chain-loop-part-preserved
eval_chain-loop-part-preserved c = λ c'.
    let text = c'.args.text.now in
    let others = take (length c'.args.parts.now - 1) (drop 1 c'.args.parts.now) in
    let op = c'.args.op in
    let goes_on = sym c'.decides.ensures ∙ c'.if-decides.false in
    let i = c'.loop-part.part-index in
    let k = c'.loop-part.locals in
    let x = c'.loop-part.world in
    let next = front others i c'.part-item.result c'.loop-part-test.true c'.part-item.is in
    let same = ap (λ xs. trees (map tree xs)) next in
    let left = trees (map tree (drop i others)) in
    let rest = trees (map tree (drop (i + 1) others)) in
    let t = tree c'.part-item.result in
    let v = c'.loop-part.value in
    let m = c'.eval-in-loop-part.new.locals in
    let y = c'.eval-in-loop-part.new.world in
    let u = c'.in_ok-next-in-len1-up.next in
    let gave = c'.in_ok-next-in-len1-up.ensures.value in
    record {
      value = ap (λ a. eval_rest (here_now text) (calls_now text) rest op a m y) c'.applied-value.ensures ∙ rest_rest text k x m y left rest t op v u same goes_on gave ∙ c'.loop-part.invariant.value;
      widths = c'.eval-in-loop-part.ensures.widths ∙ c'.loop-part.invariant.widths;
      passed = subst (λ a. IsPart y (rest_moments (here_now text) (calls_now text) (moments_now text) rest op a m y) c'.args.world.now (chain_moments (here_now text) (calls_now text) (moments_now text) (trees (map tree c'.args.parts.now)) op c'.args.locals.now c'.args.world.now)) (sym c'.applied-value.ensures)
          (part_of_part (rest_after text k x m y left rest t op v u same goes_on gave) c'.loop-part.invariant.passed);
    }

pub eval_choice-returns-in_err-eval-in-If-clause-passed : goal.eval_choice-returns-in_err-eval-in-If-clause-passed
eval_choice-returns-in_err-eval-in-If-clause-passed c = λ c'.
    let is = c'.in-If.is ∙ ap (λ o. node.If o c'.in-If.yes c'.in-If.no) (sym c'.get.ensures) in
    handed_passed (if_first c'.args.text.now c'.args.locals.now c'.args.world.now c'.args.e.now c'.get.result.now c'.in-If.yes c'.in-If.no is) c'.from_residual.result c'.in_err-eval-in-If.field-0.0 c'.eval.new.world c'.from_residual.ensures c'.in_err-eval-in-If.ensures.passed

pub eval_choice-returns-in_err-value-in-Match-clause-passed : goal.eval_choice-returns-in_err-value-in-Match-clause-passed
eval_choice-returns-in_err-value-in-Match-clause-passed c = λ c'.
    let e = c'.args.e.now in
    let on = c'.get-in-Match.result.now in
    let is = tree_cases e on c'.in-Match.arms (c'.in-Match.is ∙ ap (λ o. node.Match o c'.in-Match.arms) (sym c'.get-in-Match.ensures)) in
    handed_passed (cases_first c'.args.text.now c'.args.locals.now c'.args.world.now (tree e) (tree on) (cases_of (map choice_of c'.in-Match.arms)) e.at is)
    c'.from_residual-in_err-value-in-Match.result c'.in_err-value-in-Match.field-0.0 c'.eval-in-Match.new.world c'.from_residual-in_err-value-in-Match.ensures c'.in_err-value-in-Match.ensures.passed

pub eval_choice-returns-then-holds-clause-passed : goal.eval_choice-returns-then-holds-clause-passed
eval_choice-returns-then-holds-clause-passed c = λ c'.
    let test = c'.get.result.now in
    let is = c'.in-If.is ∙ ap (λ o. node.If o c'.in-If.yes c'.in-If.no) (sym c'.get.ensures) in
    result_passed
    (if_one c'.args.text.now c'.args.locals.now c'.args.world.now c'.args.e.now test c'.get-then-holds.result.now c'.eval.new.locals c'.eval.new.world c'.in_ok-eval-in-If.field-0 c'.in-If.no (is ∙ ap (λ o. node.If test o c'.in-If.no) (sym c'.get-then-holds.ensures)) c'.in_ok-eval-in-If.ensures.value
    (sym c'.is_true-holds.ensures ∙ c'.if-holds.true))
    c'.eval-then-holds.result c'.eval-then-holds.new.world c'.eval-then-holds.ensures.passed

pub eval_choice-returns-in-Some-clause-passed : goal.eval_choice-returns-in-Some-clause-passed
eval_choice-returns-in-Some-clause-passed c = λ c'.
    let e = c'.args.e.now in
    let test = c'.get.result.now in
    let is = c'.in-If.is ∙ ap (λ o. node.If o c'.in-If.yes c'.in-If.no) (sym c'.get.ensures) in
    let one = c'.in-If.yes in
    let other = c'.get-in-Some.result.now in
    let whole = tree_choose e test one other (is ∙ ap (node.If test one) (c'.in-Some.is ∙ ap Some (sym c'.get-in-Some.ensures))) in
    result_passed (choose_other c'.args.text.now c'.args.locals.now c'.args.world.now c'.eval.new.locals c'.eval.new.world (tree e) (tree test) (tree one) (tree other) e.at c'.in_ok-eval-in-If.field-0 whole c'.in_ok-eval-in-If.ensures.value (sym c'.is_true-holds.ensures ∙ c'.if-holds.false))
    c'.eval-in-Some.result c'.eval-in-Some.new.world c'.eval-in-Some.ensures.passed

pub eval_choice-returns-in_ok-value-in-Match-clause-passed : goal.eval_choice-returns-in_ok-value-in-Match-clause-passed
eval_choice-returns-in_ok-value-in-Match-clause-passed c = λ c'.
    let e = c'.args.e.now in
    let on = c'.get-in-Match.result.now in
    let arms = c'.as_slice.result.now in
    let is = tree_cases e on arms (c'.in-Match.is ∙ ap (λ o. node.Match o c'.in-Match.arms) (sym c'.get-in-Match.ensures) ∙ ap (node.Match on) (sym c'.as_slice.ensures)) in
    result_passed (cases_after c'.args.text.now c'.args.locals.now c'.args.world.now c'.eval-in-Match.new.locals c'.eval-in-Match.new.world (tree e) (tree on) (cases_of (map choice_of arms)) e.at c'.in_ok-value-in-Match.value is c'.in_ok-value-in-Match.ensures.value)
    c'.eval_arms.result c'.eval_arms.new.world c'.eval_arms.ensures.passed

pub eval_choice-returns-in-Foreach-clause-passed : goal.eval_choice-returns-in-Foreach-clause-passed
eval_choice-returns-in-Foreach-clause-passed c = λ c'.
    let e = c'.args.e.now in
    let body = c'.get-in-Foreach.result.now in
    let is = tree_foreach e body c'.in-Foreach.var c'.in-Foreach.from c'.in-Foreach.to (c'.in-Foreach.is ∙ ap (node.Foreach c'.in-Foreach.var c'.in-Foreach.from c'.in-Foreach.to) (sym c'.get-in-Foreach.ensures)) in
    result_passed (turns_whole c'.args.text.now c'.args.locals.now c'.args.world.now (tree e) (tree body) e.at c'.in-Foreach.var c'.in-Foreach.from c'.in-Foreach.to is) c'.eval_turns.result c'.eval_turns.new.world c'.eval_turns.ensures.passed

pub eval_step-returns-in_err-enter-in-Let-clause-passed : goal.eval_step-returns-in_err-enter-in-Let-clause-passed
eval_step-returns-in_err-enter-in-Let-clause-passed c = λ c'.
    let text = c'.args.text.now in
    let l = c'.args.locals.now in
    let w = c'.args.world.now in
    let x = c'.eval-in-Let.new.world in
    let passed = reached_passed text l c'.eval-in-Let.new.locals w x (tree c'.in-Let.by) c'.in_ok-value-in-Let.value c'.in_ok-value-in-Let.ensures.value in
    world_passed c'.from_residual-in_err-enter-in-Let.result x w (step_moments (here_now text) (calls_now text) (moments_now text) (step_of c'.args.stmt.now) l w)
    ((binding_whole text l w c'.args.stmt.now c'.in-Let.name c'.in-Let.by c'.in-Let.is).passed x passed)

pub eval_steps-returns-in_err-last-clause-passed : goal.eval_steps-returns-in_err-last-clause-passed
eval_steps-returns-in_err-last-clause-passed c = λ c'.
    let steps = c'.args.steps.now in
    let i = c'.loop-stmt.stmt-index in
    let next = front steps i c'.stmt-item.result c'.loop-stmt-test.true c'.stmt-item.is in
    let same = ap (λ xs. steps_of (map step_of xs)) next in
    let left = steps_of (map step_of (drop i steps)) in
    let rest = steps_of (map step_of (drop (i + 1) steps)) in
    let s = step_of c'.stmt-item.result in
    handed_passed (part_of_part (steps_first c'.args.text.now c'.loop-stmt.locals c'.loop-stmt.world left rest s same) c'.loop-stmt.invariant.passed)
    c'.from_residual.result c'.in_err-last.field-0.0 c'.eval_step.new.world c'.from_residual.ensures c'.in_err-last.ensures.passed

pub eval_steps-loop-stmt-preserved : goal.eval_steps-loop-stmt-preserved
eval_steps-loop-stmt-preserved c = λ c'.
    let text = c'.args.text.now in
    let steps = c'.args.steps.now in
    let i = c'.loop-stmt.stmt-index in
    let k = c'.loop-stmt.locals in
    let x = c'.loop-stmt.world in
    let next = front steps i c'.stmt-item.result c'.loop-stmt-test.true c'.stmt-item.is in
    let same = ap (λ xs. steps_of (map step_of xs)) next in
    let left = steps_of (map step_of (drop i steps)) in
    let rest = steps_of (map step_of (drop (i + 1) steps)) in
    let s = step_of c'.stmt-item.result in
    let m = c'.eval_step.new.locals in
    let y = c'.eval_step.new.world in
    record {
      value = steps_rest text k x m y left rest s c'.loop-stmt.last c'.in_ok-last.last same c'.in_ok-last.ensures.value ∙ c'.loop-stmt.invariant.value;
      widths = c'.eval_step.ensures.widths ∙ c'.loop-stmt.invariant.widths;
      passed = part_of_part (steps_after text k x m y left rest s c'.in_ok-last.last same c'.in_ok-last.ensures.value) c'.loop-stmt.invariant.passed;
    }

pub eval_turns-loop-i-init : goal.eval_turns-loop-i-init
eval_turns-loop-i-init c = λ c'.
    let text = c'.args.text.now in
    let l = c'.args.locals.now in
    let w = c'.args.world.now in
    let y = c'.args.var.now in
    let body = tree c'.args.body.now in
    let to = c'.args.to in
    let from = c'.args.from in
    record {
      value = ap (λ j. turns (to + 1 - j) j (turn (here_now text) (calls_now text) y body) l w) c'.from-i.ensures;
      widths = refl;
      passed = subst (λ j. IsPart w (turns_moments (to + 1 - j) j (turn (here_now text) (calls_now text) y body) (turn_moments (here_now text) (calls_now text) (moments_now text) y body) l w) w (turns_moments (to + 1 - from) from (turn (here_now text) (calls_now text) y body) (turn_moments (here_now text) (calls_now text) (moments_now text) y body) l w))
          (sym c'.from-i.ensures) (part_whole w (turns_moments (to + 1 - from) from (turn (here_now text) (calls_now text) y body) (turn_moments (here_now text) (calls_now text) (moments_now text) y body) l w));
    }

pub eval_turns-returns-in_err-enter-clause-passed : goal.eval_turns-returns-in_err-enter-clause-passed
eval_turns-returns-in_err-enter-clause-passed c = λ c'.
    start_passed c'.loop-i.invariant.passed c'.from_residual.result

pub eval_turns-returns-in_err-eval-clause-passed : goal.eval_turns-returns-in_err-eval-clause-passed
eval_turns-returns-in_err-eval-clause-passed c = λ c'.
    let y = c'.args.var.now in
    let body = tree c'.args.body.now in
    let to = c'.args.to in
    let i = c'.loop-i.i in
    let k = c'.loop-i.locals in
    let m = c'.enter.new.self in
    let below : i < to + 1 = omega (arith, c'.loop-i-test.true, c'.from-i-end.ensures) in
    let bound : m ≡ record { name = y; local = local.Counts i } ∷ k = c'.in_ok-enter.ensures ∙ ap (λ n. record { name = n; local = local.Counts i } ∷ k) c'.bytes.ensures in
    handed_passed (part_of_part (turns_first c'.args.text.now k c'.loop-i.world y body to i below m bound) c'.loop-i.invariant.passed)
    c'.from_residual-in_err-eval.result c'.in_err-eval.field-0.0 c'.eval.new.world c'.from_residual-in_err-eval.ensures c'.in_err-eval.ensures.passed

pub eval_turns-loop-i-preserved : goal.eval_turns-loop-i-preserved
eval_turns-loop-i-preserved c = λ c'.
    let text = c'.args.text.now in
    let y = c'.args.var.now in
    let body = tree c'.args.body.now in
    let to = c'.args.to in
    let i = c'.loop-i.i in
    let k = c'.loop-i.locals in
    let x = c'.loop-i.world in
    let m = c'.enter.new.self in
    let below : i < to + 1 = omega (arith, c'.loop-i-test.true, c'.from-i-end.ensures) in
    let bound : m ≡ record { name = y; local = local.Counts i } ∷ k = c'.in_ok-enter.ensures ∙ ap (λ n. record { name = n; local = local.Counts i } ∷ k) c'.bytes.ensures in
    let z = c'.eval.new.world in
    let gave = turn_gives text k x y body to i m c'.eval.new.locals c'.leave.new.self z c'.in_ok-eval.field-0 c'.depth-depth.result bound c'.in_ok-eval.ensures.value c'.depth-depth.ensures c'.leave.ensures in
    record {
      value = turns_rest text k x y body to i c'.leave.new.self z c'.in_ok-eval.field-0 below gave ∙ c'.loop-i.invariant.value;
      widths = c'.eval.ensures.widths ∙ c'.loop-i.invariant.widths;
      passed = part_of_part (turns_after text k x y body to i below c'.leave.new.self z c'.in_ok-eval.field-0 gave) c'.loop-i.invariant.passed;
    }

pub call_function-returns-clause-passed : goal.call_function-returns-clause-passed
call_function-returns-clause-passed c = λ c'.
    λ locals. subst (λ (p : Passing). LeavesPassed c'.call_last.result c'.call_last.new.world c'.args.world.now (p locals c'.args.world.now))
    (last_upto_moments (here_now c'.args.text.now) c'.args.text.now.defs.now c'.args.place c'.args.args.now c'.if-place-text.false) (c'.call_last.ensures.passed locals)
