-- A call with its arguments written out is that of the definition.
use Rattle.std.proofs.Common.{◌≡◌, ℕ, List, Some, None, refl, sym, ap, ◌∙◌}
use Rattle.std.specs.Prelude.{map}
use Rattle.std.specs.declared.option.Option.{Option}
use Rattle.sail_syntax.specs.Tree.{Text, Tree, Form, Step, Case, node, call, Trees}
use Rattle.sail_syntax.specs.View.{tree, trees, form_of, form_step, stmt_step, arm_step, tree_step}
use Rattle.sail_syntax.specs.declared.tree.Expr.{Expr}
use Rattle.sail_syntax.specs.declared.tree.Node.{Node}
use Rattle.sail_syntax.specs.declared.tree.Node.TheVariants as the_node
use Rattle.sail_syntax.specs.declared.tree.Node.TheOpen.{Node-F}
use Rattle.sail_syntax.specs.declared.tree.Node.TheFolds.{fold_out-Expr, fold-roll-Node}
use Rattle.sail_syntax.specs.declared.types.Ty.{Ty}
use Rattle.type_rules.specs.declared.scope.Entry.{Entry}
use Rattle.type_rules.specs.declared.scope.Item.{Item}
use Rattle.type_rules.specs.declared.scope.Item.TheVariants as item
use Rattle.type_rules.specs.declared.scope.Local.{Local}
use Rattle.type_rules.specs.Names.{find}
use Rattle.type_rules.specs.Rules.{Judged, count}
use Rattle.type_rules.specs.Judge.{judge, judge_form, judge_args, called}
use Rattle.type_judge.specs.Calls.{any_call}

by_item : (globals : List Entry) (here : ℕ) (f : Text) (at : ℕ) (want : Option Ty) (args : Trees) (scope : List Local) (o : Option Item)
    → any_call globals here f at want args scope o ≡ called globals here f at want (count args) (λ params. judge_args globals here args params scope) o
by_item globals here f at want args scope (Some (item.Function ps r after)) = refl
by_item globals here f at want args scope (Some (item.Register w)) = refl
by_item globals here f at want args scope (Some (item.Member e)) = refl
by_item globals here f at want args scope (Some item.Enum) = refl
by_item globals here f at want args scope None = refl

pub call_is : (globals : List Entry) (here : ℕ) (f : Text) (at : ℕ) (want : Option Ty) (args : Trees) (scope : List Local)
    → any_call globals here f at want args scope (find f globals) ≡ judge globals here (node at (call f args)) want scope
call_is globals here f at want args scope = by_item globals here f at want args scope (find f globals)

-- ---- a call of the code as plain data

tree_is : (e : Expr) → tree e ≡ node e.at (form_of e.node)
tree_is e = fold_out-Expr Form Step Case Tree form_step stmt_step arm_step tree_step e

call_form : (name : Text) (args : List Expr) → form_of (the_node.Call name args) ≡ call name (trees (map tree args))
call_form name args = ap form_of (sym (the_node.rolls-Call name args)) ∙ fold-roll-Node Form Step Case Tree form_step stmt_step arm_step tree_step (Node-F.Call name args)

pub tree_call : (e : Expr) (name : Text) (args : List Expr) → e.node ≡ the_node.Call name args → tree e ≡ node e.at (call name (trees (map tree args)))
tree_call e name args is = tree_is e ∙ ap (λ (n : Node). node e.at (form_of n)) is ∙ ap (node e.at) (call_form name args)
