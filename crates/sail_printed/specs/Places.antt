-- Programs without their places.
use Rattle.std.specs.Prelude.{List, map}
use Rattle.sail_syntax.specs.Tree.{Tree, node, Form, unit, lit, truth, name, chain, flip, slice, update, call, widen, choose, when, cases, foreach, check, exit, assign, block, Trees, none, some, Case, arm, Cases, no_case, case, Step, binds, holds, does, Steps, done, next}
use Rattle.sail_syntax.specs.Program.{Definition, Function, order, register, enumeration, signature, function}

abbrev mutual
  -- an expression with 0 for each place
  pub unplaced : Tree → Tree
  unplaced (node at form) = node 0 (unplaced_form form)

  -- what an expression is
  pub unplaced_form : Form → Form
  unplaced_form unit = unit
  unplaced_form (lit b) = lit b
  unplaced_form (truth b) = truth b
  unplaced_form (name x) = name x
  unplaced_form (chain op parts) = chain op (unplaced_trees parts)
  unplaced_form (flip of) = flip (unplaced of)
  unplaced_form (slice of hi lo) = slice (unplaced of) hi lo
  unplaced_form (update of hi lo by) = update (unplaced of) hi lo (unplaced by)
  unplaced_form (call f args) = call f (unplaced_trees args)
  unplaced_form (widen signed to of) = widen signed to (unplaced of)
  unplaced_form (choose test one other) = choose (unplaced test) (unplaced one) (unplaced other)
  unplaced_form (when test one) = when (unplaced test) (unplaced one)
  unplaced_form (cases on arms) = cases (unplaced on) (unplaced_cases arms)
  unplaced_form (foreach x from to body) = foreach x from to (unplaced body)
  unplaced_form (check test text) = check (unplaced test) text
  unplaced_form exit = exit
  unplaced_form (assign x by) = assign x (unplaced by)
  unplaced_form (block steps) = block (unplaced_steps steps)

  -- expressions in a row
  pub unplaced_trees : Trees → Trees
  unplaced_trees none = none
  unplaced_trees (some t ts) = some (unplaced t) (unplaced_trees ts)

  -- an arm of a match
  pub unplaced_case : Case → Case
  unplaced_case (arm p body) = arm p (unplaced body)

  -- arms in a row
  pub unplaced_cases : Cases → Cases
  unplaced_cases no_case = no_case
  unplaced_cases (case c rest) = case (unplaced_case c) (unplaced_cases rest)

  -- a statement
  pub unplaced_step : Step → Step
  unplaced_step (binds x ty by) = binds x ty (unplaced by)
  unplaced_step (holds x ty by) = holds x ty (unplaced by)
  unplaced_step (does e) = does (unplaced e)

  -- statements in a row
  pub unplaced_steps : Steps → Steps
  unplaced_steps done = done
  unplaced_steps (next s rest) = next (unplaced_step s) (unplaced_steps rest)

-- a definition with 0 for each place
abbrev pub unplaced_definition : Definition → Definition
unplaced_definition order = order
unplaced_definition (register x width at) = register x width 0
unplaced_definition (enumeration x members at) = enumeration x members 0
unplaced_definition (signature x args result at) = signature x args result 0
unplaced_definition (function f) = function (record { name = f.name; params = f.params; result = f.result; body = unplaced f.body; at = 0 })

-- a program with 0 for each place
abbrev pub unplaced_program : List Definition → List Definition
unplaced_program ds = map unplaced_definition ds
