use Rattle.std.proofs.Common.{◌≡◌, IfOk, OnOk, refl, sym, ap, ◌∙◌, subst}
use Rattle.std.specs.Prelude.{map}
use Rattle.sail_syntax.specs.Tree.{Tree, node, call}
use Rattle.sail_syntax.specs.View.{tree, trees}
use Rattle.type_rules.specs.Faults.{first_from}
use Rattle.type_rules.specs.Rules.{Judged}
use Rattle.type_rules.specs.Judge as spec
use Rattle.type_names.specs.Borrowed.{maybe_type, maybe_fault}
use Rattle.type_judge.proofs.Calls.{call_is, tree_call}
use Rattle.type_judge.proofs.typing.+judge.Goals as goal

-- a call is that of the definition
pub judge-returns-in-Call-clause-answer : goal.judge-returns-in-Call-clause-answer
judge-returns-in-Call-clause-answer t c =
    let e = c.args.e.now in
    let args = trees (map tree c.in-Call.args) in
    let is = call_is c.args.globals.now c.args.here c.in-Call.name e.at (maybe_type c.args.want) args c.args.locals.now in
    let same : tree e ≡ node e.at (call c.in-Call.name args) = tree_call e c.in-Call.name c.in-Call.args c.in-Call.is in
    let whole = is ∙ ap (λ (x : Tree). spec.judge c.args.globals.now c.args.here x (maybe_type c.args.want) c.args.locals.now) (sym same) in
    subst (λ (j : Judged). IfOk c.judge_call.result (λ t'. maybe_type t' ≡ j.type)) whole c.judge_call.ensures.answer

pub judge-returns-in-Call-clause-first : goal.judge-returns-in-Call-clause-first
judge-returns-in-Call-clause-first t c =
    let e = c.args.e.now in
    let args = trees (map tree c.in-Call.args) in
    let is = call_is c.args.globals.now c.args.here c.in-Call.name e.at (maybe_type c.args.want) args c.args.locals.now in
    let same : tree e ≡ node e.at (call c.in-Call.name args) = tree_call e c.in-Call.name c.in-Call.args c.in-Call.is in
    let whole = is ∙ ap (λ (x : Tree). spec.judge c.args.globals.now c.args.here x (maybe_type c.args.want) c.args.locals.now) (sym same) in
    subst (λ (j : Judged). OnOk c.judge_call.result (maybe_fault c.judge_call.new.best ≡ first_from (maybe_fault c.args.best.now) j.faults)) whole c.judge_call.ensures.first
