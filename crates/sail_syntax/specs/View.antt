-- The code's expressions and programs as plain data.
use Rattle.std.specs.Prelude.{List, [], ◌∷◌, Option, Some, None, map}
use Rattle.sail_syntax.specs.declared.tree.Arm.{Arm}
use Rattle.sail_syntax.specs.declared.tree.Stmt.{Stmt}
use Rattle.sail_syntax.specs.declared.tree.Expr.{Expr}
use Rattle.sail_syntax.specs.declared.tree.Node.{Node}
use Rattle.sail_syntax.specs.declared.tree.Node.TheOpen.{Node-F, Stmt-F, Arm-F, Expr-F}
use Rattle.sail_syntax.specs.declared.tree.Node.TheFolds.{fold-Node, fold-Expr, fold-Stmt, fold-Arm}
use Rattle.sail_syntax.specs.declared.definitions.Def.{Def}
use Rattle.sail_syntax.specs.declared.definitions.Def.TheVariants as def
use Rattle.sail_syntax.specs.declared.definitions.Program.{Program}
use Rattle.sail_syntax.specs.Tree.{Tree, node, Form, unit, lit, truth, name, chain, flip, slice, update, call, widen, choose, when, cases, foreach, check, exit, assign, block, Trees, none, some, Case, arm, Cases, no_case, case, Step, binds, holds, does, Steps, done, next}
use Rattle.sail_syntax.specs.Program.{Definition, order, register, enumeration, signature, function}

-- a list of expressions
abbrev pub trees : List Tree → Trees
trees [] = none
trees (t ∷ ts) = some t (trees ts)

-- a list of arms
abbrev pub cases_of : List Case → Cases
cases_of [] = no_case
cases_of (a ∷ rest) = case a (cases_of rest)

-- a list of statements
abbrev pub steps_of : List Step → Steps
steps_of [] = done
steps_of (s ∷ rest) = next s (steps_of rest)

-- an if, with an else or without
abbrev pub choice : Tree → Tree → Option Tree → Form
choice test one (Some other) = choose test one other
choice test one None = when test one

-- a node whose parts are plain
abbrev pub form_step : Node-F Form Step Case Tree → Form
form_step Node-F.Unit = unit
form_step (Node-F.Lit b) = lit b
form_step (Node-F.Truth b) = truth b
form_step (Node-F.Node::Var x) = name x
form_step (Node-F.Chain op parts) = chain op (trees parts)
form_step (Node-F.Flip of) = flip of
form_step (Node-F.Slice of hi lo) = slice of hi lo
form_step (Node-F.With of hi lo by) = update of hi lo by
form_step (Node-F.Call f args) = call f (trees args)
form_step (Node-F.Widen signed to of) = widen signed to of
form_step (Node-F.If test one other) = choice test one other
form_step (Node-F.Match on arms) = cases on (cases_of arms)
form_step (Node-F.Foreach x from to body) = foreach x from to body
form_step (Node-F.Assert test text) = check test text
form_step Node-F.Exit = exit
form_step (Node-F.Assign x by) = assign x by
form_step (Node-F.Block steps) = block (steps_of steps)

-- a statement whose parts are plain
abbrev pub stmt_step : Stmt-F Form Step Case Tree → Step
stmt_step (Stmt-F.Let x ty by) = binds x ty by
stmt_step (Stmt-F.Stmt::Var x ty by) = holds x ty by
stmt_step (Stmt-F.Do e) = does e

-- an arm whose parts are plain
abbrev pub arm_step : Arm-F Form Step Case Tree → Case
arm_step a = arm a.pattern a.body

-- an expression whose node is plain
abbrev pub tree_step : Expr-F Form Step Case Tree → Tree
tree_step e = node e.at e.node

-- an expression
abbrev pub tree : Expr → Tree
tree = fold-Expr Form Step Case Tree form_step stmt_step arm_step tree_step

-- a node
abbrev pub form_of : Node → Form
form_of = fold-Node Form Step Case Tree form_step stmt_step arm_step tree_step

-- an arm of a match
abbrev pub choice_of : Arm → Case
choice_of = fold-Arm Form Step Case Tree form_step stmt_step arm_step tree_step

-- a statement of a block
abbrev pub step_of : Stmt → Step
step_of = fold-Stmt Form Step Case Tree form_step stmt_step arm_step tree_step

-- a definition
abbrev pub definition_of : Def → Definition
definition_of def.Order = order
definition_of (def.Register x width at) = register x width at
definition_of (def.Enum x members at) = enumeration x members at
definition_of (def.Val x args result at) = signature x args result at
definition_of (def.Function x params result body at) =
    function (record { name = x; params = params; result = result; body = tree body; at = at })

-- the definitions of a program
abbrev pub program_of : Program → List Definition
program_of p = map definition_of p.defs
