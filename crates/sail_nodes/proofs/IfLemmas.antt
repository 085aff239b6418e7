-- An if of the code as plain data.
use Rattle.std.proofs.Common.{◌≡◌, ℕ, Some, None, sym, ap, ◌∙◌}
use Rattle.sail_syntax.specs.Tree.{Tree, Form, Step, Case, node, when, choose}
use Rattle.sail_syntax.specs.View.{tree, form_of, form_step, stmt_step, arm_step, tree_step}
use Rattle.sail_syntax.specs.declared.tree.Expr.{Expr, roll-Expr}
use Rattle.sail_syntax.specs.declared.tree.Node.TheVariants as the_node
use Rattle.sail_syntax.specs.declared.tree.Node.TheOpen.{Node-F}
use Rattle.sail_syntax.specs.declared.tree.Node.TheFolds.{fold-roll-Node, fold-roll-Expr}

pub tree_when : (at : ℕ) (test one : Expr) → tree (roll-Expr (record { at = at; node = the_node.If test one None })) ≡ node at (when (tree test) (tree one))
tree_when at test one =
    fold-roll-Expr Form Step Case Tree form_step stmt_step arm_step tree_step (record { at = at; node = the_node.If test one None })
    ∙ ap (node at) (ap form_of (sym (the_node.rolls-If test one None)) ∙ fold-roll-Node Form Step Case Tree form_step stmt_step arm_step tree_step (Node-F.If test one None))

pub tree_choose : (at : ℕ) (test one other : Expr) → tree (roll-Expr (record { at = at; node = the_node.If test one (Some other) })) ≡ node at (choose (tree test) (tree one) (tree other))
tree_choose at test one other =
    fold-roll-Expr Form Step Case Tree form_step stmt_step arm_step tree_step (record { at = at; node = the_node.If test one (Some other) })
    ∙ ap (node at) (ap form_of (sym (the_node.rolls-If test one (Some other))) ∙ fold-roll-Node Form Step Case Tree form_step stmt_step arm_step tree_step (Node-F.If test one (Some other)))
