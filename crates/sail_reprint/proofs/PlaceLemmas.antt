-- The text of a program doesn't depend on its places.
use Rattle.std.proofs.Common.{◌≡◌, List, [], ◌∷◌, refl, sym, ap, ◌∙◌}
use Rattle.sail_syntax.specs.Tree.{Tree, node, Form, unit, lit, truth, name, chain, flip, slice, update, call, widen, choose, when, cases, foreach, check, exit, assign, block, Trees, none, some, Case, arm, Cases, no_case, case, Step, binds, holds, does, Steps, done, next}
use Rattle.sail_syntax.specs.Program.{Definition, order, register, enumeration, signature, function}
use Rattle.sail_syntax.specs.declared.tree.Infix.{Infix}
use Rattle.sail_text.specs.Expressions.{is_operand, is_open, is_unit, is_done, tree_text, form_text, chain_text, more_chain_text, arguments_text, more_arguments_text, arm_text, arms_text, more_arms_text, step_text, steps_text, more_steps_text}
use Rattle.sail_text.specs.Definitions.{definition_text, printed}
use Rattle.sail_printed.specs.Places.{unplaced, unplaced_form, unplaced_trees, unplaced_case, unplaced_cases, unplaced_step, unplaced_steps, unplaced_definition, unplaced_program}

-- ---- where parentheses stand

operand_same : (t : Tree) → is_operand (unplaced t) ≡ is_operand t
operand_same (node at unit) = refl
operand_same (node at (lit b)) = refl
operand_same (node at (truth b)) = refl
operand_same (node at (name x)) = refl
operand_same (node at (chain op parts)) = refl
operand_same (node at (flip of)) = refl
operand_same (node at (slice of hi lo)) = refl
operand_same (node at (update of hi lo by)) = refl
operand_same (node at (call f args)) = refl
operand_same (node at (widen signed to of)) = refl
operand_same (node at (choose test one other)) = refl
operand_same (node at (when test one)) = refl
operand_same (node at (cases on arms)) = refl
operand_same (node at (foreach x from to body)) = refl
operand_same (node at (check test text)) = refl
operand_same (node at exit) = refl
operand_same (node at (assign x by)) = refl
operand_same (node at (block steps)) = refl

open_same : (t : Tree) → is_open (unplaced t) ≡ is_open t
open_same (node at unit) = refl
open_same (node at (lit b)) = refl
open_same (node at (truth b)) = refl
open_same (node at (name x)) = refl
open_same (node at (chain op parts)) = refl
open_same (node at (flip of)) = refl
open_same (node at (slice of hi lo)) = refl
open_same (node at (update of hi lo by)) = refl
open_same (node at (call f args)) = refl
open_same (node at (widen signed to of)) = refl
open_same (node at (choose test one other)) = open_same other
open_same (node at (when test one)) = refl
open_same (node at (cases on arms)) = refl
open_same (node at (foreach x from to body)) = refl
open_same (node at (check test text)) = refl
open_same (node at exit) = refl
open_same (node at (assign x by)) = open_same by
open_same (node at (block steps)) = refl

unit_same : (s : Step) → is_unit (unplaced_step s) ≡ is_unit s
unit_same (binds x ty by) = refl
unit_same (holds x ty by) = refl
unit_same (does (node at unit)) = refl
unit_same (does (node at (lit b))) = refl
unit_same (does (node at (truth b))) = refl
unit_same (does (node at (name x))) = refl
unit_same (does (node at (chain op parts))) = refl
unit_same (does (node at (flip of))) = refl
unit_same (does (node at (slice of hi lo))) = refl
unit_same (does (node at (update of hi lo by))) = refl
unit_same (does (node at (call f args))) = refl
unit_same (does (node at (widen signed to of))) = refl
unit_same (does (node at (choose test one other))) = refl
unit_same (does (node at (when test one))) = refl
unit_same (does (node at (cases on arms))) = refl
unit_same (does (node at (foreach x from to body))) = refl
unit_same (does (node at (check test text))) = refl
unit_same (does (node at exit)) = refl
unit_same (does (node at (assign x by))) = refl
unit_same (does (node at (block steps))) = refl

done_same : (s : Steps) → is_done (unplaced_steps s) ≡ is_done s
done_same done = refl
done_same (next s rest) = refl

-- ---- texts

mutual
  tree_same : (t : Tree) → tree_text (unplaced t) ≡ tree_text t
  tree_same (node at form) = form_same form

  form_same : (f : Form) → form_text (unplaced_form f) ≡ form_text f
  form_same unit = refl
  form_same (lit b) = refl
  form_same (truth b) = refl
  form_same (name x) = refl
  form_same (chain op parts) = chain_same op parts
  form_same (flip of) = rw (tree_same of)
  form_same (slice of hi lo) = rw (operand_same of, tree_same of)
  form_same (update of hi lo by) = rw (tree_same of, tree_same by)
  form_same (call f args) = rw (arguments_same args)
  form_same (widen signed to of) = rw (tree_same of)
  form_same (choose test one other) = rw (tree_same test, open_same one, tree_same one, tree_same other)
  form_same (when test one) = rw (tree_same test, tree_same one)
  form_same (cases on arms) = rw (tree_same on, arms_same arms)
  form_same (foreach x from to body) = rw (tree_same body)
  form_same (check test text) = rw (tree_same test)
  form_same exit = refl
  form_same (assign x by) = rw (tree_same by)
  form_same (block steps) = rw (steps_same steps)

  chain_same : (op : Infix) (ts : Trees) → chain_text op (unplaced_trees ts) ≡ chain_text op ts
  chain_same op none = refl
  chain_same op (some t ts) = rw (operand_same t, tree_same t, more_chain_same op ts)

  more_chain_same : (op : Infix) (ts : Trees) → more_chain_text op (unplaced_trees ts) ≡ more_chain_text op ts
  more_chain_same op none = refl
  more_chain_same op (some t ts) = rw (operand_same t, tree_same t, more_chain_same op ts)

  arguments_same : (ts : Trees) → arguments_text (unplaced_trees ts) ≡ arguments_text ts
  arguments_same none = refl
  arguments_same (some t ts) = rw (tree_same t, more_arguments_same ts)

  more_arguments_same : (ts : Trees) → more_arguments_text (unplaced_trees ts) ≡ more_arguments_text ts
  more_arguments_same none = refl
  more_arguments_same (some t ts) = rw (tree_same t, more_arguments_same ts)

  arm_same : (a : Case) → arm_text (unplaced_case a) ≡ arm_text a
  arm_same (arm p body) = rw (tree_same body)

  arms_same : (cs : Cases) → arms_text (unplaced_cases cs) ≡ arms_text cs
  arms_same no_case = refl
  arms_same (case c rest) = rw (arm_same c, more_arms_same rest)

  more_arms_same : (cs : Cases) → more_arms_text (unplaced_cases cs) ≡ more_arms_text cs
  more_arms_same no_case = refl
  more_arms_same (case c rest) = rw (arm_same c, more_arms_same rest)

  step_same : (s : Step) → step_text (unplaced_step s) ≡ step_text s
  step_same (binds x ty by) = rw (tree_same by)
  step_same (holds x ty by) = rw (tree_same by)
  step_same (does e) = tree_same e

  steps_same : (s : Steps) → steps_text (unplaced_steps s) ≡ steps_text s
  steps_same done = refl
  steps_same (next s rest) = rw (step_same s, more_steps_same rest)

  more_steps_same : (s : Steps) → more_steps_text (unplaced_steps s) ≡ more_steps_text s
  more_steps_same done = refl
  more_steps_same (next s rest) = rw (done_same rest, unit_same s, step_same s, more_steps_same rest)

definition_same : (d : Definition) → definition_text (unplaced_definition d) ≡ definition_text d
definition_same order = refl
definition_same (register x width at) = refl
definition_same (enumeration x members at) = refl
definition_same (signature x args result at) = refl
definition_same (function f) = rw (tree_same f.body)

printed_same : (ds : List Definition) → printed (unplaced_program ds) ≡ printed ds
printed_same [] = refl
printed_same (d ∷ ds) = rw (definition_same d, printed_same ds)

-- programs that differ in places alone have the same text
pub same_text : (ds es : List Definition) → unplaced_program ds ≡ unplaced_program es → printed ds ≡ printed es
same_text ds es h = sym (printed_same ds) ∙ ap printed h ∙ printed_same es
