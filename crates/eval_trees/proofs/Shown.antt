-- The code's expressions, arms and statements by what they are, as plain data.
use Rattle.std.proofs.Common.{◌≡◌, ℕ, List, Some, None, sym, ap, ◌∙◌}
use Rattle.std.specs.Prelude.{map}
use Rattle.std.specs.declared.option.Option.{Option}
use Rattle.sail_syntax.specs.Tree.{Text, Tree, Form, Step, Case, node, call, update, choose, when, cases, foreach, assign, arm, binds, holds}
use Rattle.sail_syntax.specs.View.{tree, trees, choice_of, cases_of, step_of, form_of, form_step, stmt_step, arm_step, tree_step}
use Rattle.sail_syntax.specs.declared.tree.Arm.{Arm}
use Rattle.sail_syntax.specs.declared.tree.Expr.{Expr}
use Rattle.sail_syntax.specs.declared.tree.Index.{Index}
use Rattle.sail_syntax.specs.declared.tree.Node.{Node}
use Rattle.sail_syntax.specs.declared.tree.Node.TheVariants as the_node
use Rattle.sail_syntax.specs.declared.tree.Stmt.{Stmt}
use Rattle.sail_syntax.specs.declared.tree.Stmt.TheVariants as the_stmt
use Rattle.sail_syntax.specs.declared.types.Ty.{Ty}
use Rattle.sail_syntax.specs.declared.tree.Node.TheOpen.{Node-F, Stmt-F}
use Rattle.sail_syntax.specs.declared.tree.Node.TheFolds.{fold_out-Expr, fold_out-Arm, fold-roll-Node, fold-roll-Stmt}

tree_is : (e : Expr) → tree e ≡ node e.at (form_of e.node)
tree_is e = fold_out-Expr Form Step Case Tree form_step stmt_step arm_step tree_step e

-- an expression by the form of its node
by_form : (e : Expr) (n : Node) (f : Form) → e.node ≡ n → form_of n ≡ f → tree e ≡ node e.at f
by_form e n f is form = tree_is e ∙ ap (λ m. node e.at (form_of m)) is ∙ ap (node e.at) form

pub tree_call : (e : Expr) (name : Text) (args : List Expr) → e.node ≡ the_node.Call name args → tree e ≡ node e.at (call name (trees (map tree args)))
tree_call e name args is = by_form e (the_node.Call name args) (call name (trees (map tree args))) is
    (ap form_of (sym (the_node.rolls-Call name args)) ∙ fold-roll-Node Form Step Case Tree form_step stmt_step arm_step tree_step (Node-F.Call name args))

pub tree_update : (e of by : Expr) (hi lo : Index) → e.node ≡ the_node.With of hi lo by → tree e ≡ node e.at (update (tree of) hi lo (tree by))
tree_update e of by hi lo is = by_form e (the_node.With of hi lo by) (update (tree of) hi lo (tree by)) is
    (ap form_of (sym (the_node.rolls-With of hi lo by)) ∙ fold-roll-Node Form Step Case Tree form_step stmt_step arm_step tree_step (Node-F.With of hi lo by))

pub tree_choose : (e test one other : Expr) → e.node ≡ the_node.If test one (Some other) → tree e ≡ node e.at (choose (tree test) (tree one) (tree other))
tree_choose e test one other is = by_form e (the_node.If test one (Some other)) (choose (tree test) (tree one) (tree other)) is
    (ap form_of (sym (the_node.rolls-If test one (Some other)))
    ∙ fold-roll-Node Form Step Case Tree form_step stmt_step arm_step tree_step (Node-F.If test one (Some other)))

pub tree_when : (e test one : Expr) → e.node ≡ the_node.If test one None → tree e ≡ node e.at (when (tree test) (tree one))
tree_when e test one is = by_form e (the_node.If test one None) (when (tree test) (tree one)) is
    (ap form_of (sym (the_node.rolls-If test one None)) ∙ fold-roll-Node Form Step Case Tree form_step stmt_step arm_step tree_step (Node-F.If test one None))

pub tree_cases : (e on : Expr) (arms : List Arm) → e.node ≡ the_node.Match on arms → tree e ≡ node e.at (cases (tree on) (cases_of (map choice_of arms)))
tree_cases e on arms is = by_form e (the_node.Match on arms) (cases (tree on) (cases_of (map choice_of arms))) is
    (ap form_of (sym (the_node.rolls-Match on arms)) ∙ fold-roll-Node Form Step Case Tree form_step stmt_step arm_step tree_step (Node-F.Match on arms))

pub tree_foreach : (e body : Expr) (x : Text) (from to : ℕ) → e.node ≡ the_node.Foreach x from to body → tree e ≡ node e.at (foreach x from to (tree body))
tree_foreach e body x from to is = by_form e (the_node.Foreach x from to body) (foreach x from to (tree body)) is
    (ap form_of (sym (the_node.rolls-Foreach x from to body)) ∙ fold-roll-Node Form Step Case Tree form_step stmt_step arm_step tree_step (Node-F.Foreach x from to body))

pub tree_assign : (e by : Expr) (x : Text) → e.node ≡ the_node.Assign x by → tree e ≡ node e.at (assign x (tree by))
tree_assign e by x is = by_form e (the_node.Assign x by) (assign x (tree by)) is
    (ap form_of (sym (the_node.rolls-Assign x by)) ∙ fold-roll-Node Form Step Case Tree form_step stmt_step arm_step tree_step (Node-F.Assign x by))

-- an arm
pub choice_is : (a : Arm) → choice_of a ≡ arm a.pattern (tree a.body)
choice_is a = fold_out-Arm Form Step Case Tree form_step stmt_step arm_step tree_step a

-- a statement that binds a name
pub step_let : (s : Stmt) (x : Text) (ty : Option Ty) (by : Expr) → s ≡ the_stmt.Let x ty by → step_of s ≡ binds x ty (tree by)
step_let s x ty by is = ap step_of is
    ∙ (ap step_of (sym (the_stmt.rolls-Let x ty by)) ∙ fold-roll-Stmt Form Step Case Tree form_step stmt_step arm_step tree_step (Stmt-F.Let x ty by))

pub step_var : (s : Stmt) (x : Text) (ty : Option Ty) (by : Expr) → s ≡ the_stmt.Var x ty by → step_of s ≡ holds x ty (tree by)
step_var s x ty by is = ap step_of is
    ∙ (ap step_of (sym (the_stmt.rolls-Var x ty by)) ∙ fold-roll-Stmt Form Step Case Tree form_step stmt_step arm_step tree_step (Stmt-F.Stmt::Var x ty by))
