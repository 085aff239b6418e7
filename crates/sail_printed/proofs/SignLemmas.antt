-- The signs of a program are ones that tokens can be.
use Rattle.std.proofs.Common.{◌≡◌, ℕ, zero, suc, ◌≤◌, ◌<◌, ◌^◌, Bool, true, false, ◌&&◌, List, [], ◌∷◌, Option, Some, None, arith}
use Rattle.std.specs.Bool.{⊤}
use Rattle.bv_bits.specs.Bits.{IsWidth}
use Rattle.sail_syntax.specs.Tree.{Text, Tree, node, Form, unit, lit, truth, name, chain, flip, slice, update, call, widen, choose, when, cases, foreach, check, exit, assign, block, Trees, none, some, Case, arm, Cases, no_case, case, Step, binds, holds, does, Steps, done, next}
use Rattle.sail_syntax.specs.Program.{Definition, Function, order, register, enumeration, signature, function}
use Rattle.sail_syntax.specs.declared.tree.Infix.{Infix}
use Rattle.sail_syntax.specs.declared.tree.Index.{Index}
use Rattle.sail_syntax.specs.declared.patterns.Pattern.{Pattern}
use Rattle.sail_syntax.specs.declared.patterns.Pattern.TheVariants as pattern
use Rattle.sail_syntax.specs.declared.patterns.Part.{Part}
use Rattle.sail_syntax.specs.declared.patterns.Part.TheVariants as part
use Rattle.sail_syntax.specs.declared.types.Ty.{Ty}
use Rattle.sail_syntax.specs.declared.types.Ty.TheVariants as ty
use Rattle.sail_syntax.specs.declared.types.Param.{Param}
use Rattle.sail_text.specs.Expressions.{is_operand, is_open, is_unit, is_done}
use Rattle.sail_printed.specs.Forms.{IsName, IsFormedType, IsFormedWritten, IsFormedVariable, IsFormedIndex, IsFormedPart, AreFormedParts, AreSeveralParts, IsFormedPattern, IsFormed, HasForm, AreFormed, IsFormedChain, IsFormedRest, IsFormedCase, AreFormedCases, IsFormedStep, AreFormedSteps, AreNames, AreFormedTypes, AreFormedParams, IsFormedDefinition, AreFormedDefinitions, IsFormedProgram}
use Rattle.sail_printed.proofs.Signs.{AreSigns}
use Rattle.sail_printed.proofs.Shown.{Signs, width_signs, type_signs, written_signs, plus_signs, index_part_signs, index_signs, part_signs, more_parts_signs, parts_signs, truth_sign, pattern_signs, more_names_signs, names_signs, more_types_signs, types_signs, param_signs, more_params_signs, params_signs, widen_word, operand_signs, closed_signs, later_signs, signs, form_signs, chain_signs, more_chain_signs, arguments_signs, more_arguments_signs, arm_signs, arms_signs, more_arms_signs, step_signs, steps_signs, more_steps_signs, definition_signs, program_signs}

-- ---- what holds no expression

width_good : (w : ℕ) → IsWidth w → (r : Signs) → AreSigns r → AreSigns (width_signs w r)
width_good w h r g = (tt, (tt, (omega (arith, h.at_most), (tt, g))))

type_good : (t : Ty) → IsFormedType t → (r : Signs) → AreSigns r → AreSigns (type_signs t r)
type_good ty.Unit h r g = (tt, g)
type_good ty.Bool h r g = (tt, g)
type_good (ty.Bits w) h r g = width_good w h r g
type_good (ty.Enum x) h r g = (h, g)

written_good : (t : Option Ty) → IsFormedWritten t → (r : Signs) → AreSigns r → AreSigns (written_signs t r)
written_good None h r g = g
written_good (Some t) h r g = (tt, type_good t h r g)

plus_good : (n : ℕ) → n ≤ 127 → (r : Signs) → AreSigns r → AreSigns (plus_signs n r)
plus_good zero h r g = g
plus_good (suc n) h r g = (tt, (omega (arith, h), g))

index_parts_good : (x : Option Text) (n : ℕ) → IsFormedVariable x → n ≤ 127 → (r : Signs) → AreSigns r → AreSigns (index_part_signs x n r)
index_parts_good None n h l r g = (omega (arith, l), g)
index_parts_good (Some x) n h l r g = (h, plus_good n l r g)

index_good : (i : Index) → IsFormedIndex i → (r : Signs) → AreSigns r → AreSigns (index_signs i r)
index_good i h r g = index_parts_good i.var i.plus h.0 h.1 r g

part_good : (p : Part) → IsFormedPart p → (r : Signs) → AreSigns r → AreSigns (part_signs p r)
part_good (part.Lit b) h r g = (h, g)
part_good (part.Bind x w) h r g = (h.0, (tt, width_good w h.1 r g))
part_good (part.Skip w) h r g = (tt, (tt, width_good w h r g))

more_parts_good : (ps : List Part) → AreFormedParts ps → (r : Signs) → AreSigns r → AreSigns (more_parts_signs ps r)
more_parts_good [] h r g = g
more_parts_good (p ∷ []) h r g = (tt, part_good p h r g)
more_parts_good (p ∷ q ∷ ps) h r g = (tt, part_good p h.0 _ (more_parts_good (q ∷ ps) h.1 r g))

parts_good : (ps : List Part) → AreSeveralParts ps → (r : Signs) → AreSigns r → AreSigns (parts_signs ps r)
parts_good [] h r g = g
parts_good (p ∷ ps) h r g = part_good p h.0 _ (more_parts_good ps h.1 r g)

truth_good : (b : Bool) (r : Signs) → AreSigns r → AreSigns (truth_sign b ∷ r)
truth_good true r g = (tt, g)
truth_good false r g = (tt, g)

pattern_good : (p : Pattern) → IsFormedPattern p → (r : Signs) → AreSigns r → AreSigns (pattern_signs p r)
pattern_good pattern.Any h r g = (tt, g)
pattern_good (pattern.Name x) h r g = (h, g)
pattern_good (pattern.Lit b) h r g = (h, g)
pattern_good (pattern.Truth b) h r g = truth_good b r g
pattern_good (pattern.Parts ps) h r g = parts_good ps h r g

more_names_good : (xs : List Text) → AreNames xs → (r : Signs) → AreSigns r → AreSigns (more_names_signs xs r)
more_names_good [] h r g = g
more_names_good (x ∷ []) h r g = (tt, (h, g))
more_names_good (x ∷ y ∷ xs) h r g = (tt, (h.0, more_names_good (y ∷ xs) h.1 r g))

names_good : (xs : List Text) → AreNames xs → (r : Signs) → AreSigns r → AreSigns (names_signs xs r)
names_good [] h r g = g
names_good (x ∷ []) h r g = (h, g)
names_good (x ∷ y ∷ xs) h r g = (h.0, more_names_good (y ∷ xs) h.1 r g)

more_types_good : (ts : List Ty) → AreFormedTypes ts → (r : Signs) → AreSigns r → AreSigns (more_types_signs ts r)
more_types_good [] h r g = g
more_types_good (t ∷ ts) h r g = (tt, type_good t h.0 _ (more_types_good ts h.1 r g))

types_good : (ts : List Ty) → AreFormedTypes ts → (r : Signs) → AreSigns r → AreSigns (types_signs ts r)
types_good [] h r g = g
types_good (t ∷ ts) h r g = type_good t h.0 _ (more_types_good ts h.1 r g)

param_good : (p : Param) → IsName p.name → IsFormedType p.ty → (r : Signs) → AreSigns r → AreSigns (param_signs p r)
param_good p x t r g = (x, (tt, type_good p.ty t r g))

more_params_good : (ps : List Param) → AreFormedParams ps → (r : Signs) → AreSigns r → AreSigns (more_params_signs ps r)
more_params_good [] h r g = g
more_params_good (p ∷ ps) h r g = (tt, param_good p h.0 h.1 _ (more_params_good ps h.2 r g))

params_good : (ps : List Param) → AreFormedParams ps → (r : Signs) → AreSigns r → AreSigns (params_signs ps r)
params_good [] h r g = g
params_good (p ∷ ps) h r g = param_good p h.0 h.1 _ (more_params_good ps h.2 r g)

-- ---- expressions

-- signs that are good in front of good ones
abbrev AreGood : (Signs → Signs) → Type 0
AreGood f = (r : Signs) → AreSigns r → AreSigns (f r)

operand_good : (b : Bool) (f : Signs → Signs) → AreGood f → AreGood (operand_signs b f)
operand_good true f h r g = h r g
operand_good false f h r g = (tt, h _ (tt, g))

closed_good : (b : Bool) (f : Signs → Signs) → AreGood f → AreGood (closed_signs b f)
closed_good true f h r g = (tt, h _ (tt, g))
closed_good false f h r g = h r g

later_good : (b : Bool) (f : Signs → Signs) → AreGood f → AreGood (later_signs b f)
later_good true f h r g = g
later_good false f h r g = h r g

mutual
  tree_good : (t : Tree) → IsFormed t → AreGood (signs t)
  tree_good (node at form) h r g = form_good form h r g

  form_good : (form : Form) → HasForm form → AreGood (form_signs form)
  form_good unit h r g = (tt, (tt, g))
  form_good (lit b) h r g = (h, g)
  form_good (truth b) h r g = truth_good b r g
  form_good (name x) h r g = (h, g)
  form_good (chain op parts) h r g = chain_good op parts h r g
  form_good (flip of) h r g = (tt, (tt, tree_good of h _ (tt, g)))
  form_good (slice of hi lo) h r g = operand_good (is_operand of) (signs of) (tree_good of h.0) _ (tt, index_good hi h.1 _ (tt, index_good lo h.2 _ (tt, g)))
  form_good (update of hi lo by) h r g = (tt, tree_good of h.0 _ (tt, index_good hi h.1 _ (tt, index_good lo h.2 _ (tt, tree_good by h.3 _ (tt, g)))))
  form_good (call f args) h r g = (h.0, (tt, arguments_good args h.1 _ (tt, g)))
  form_good (widen signed to of) h r g = (tt, (tt, (omega (arith, h.0.at_most), (tt, tree_good of h.1 _ (tt, g)))))
  form_good (choose test one other) h r g = (tt, tree_good test h.0 _ (tt, closed_good (is_open one) (signs one) (tree_good one h.1) _ (tt, tree_good other h.2 r g)))
  form_good (when test one) h r g = (tt, tree_good test h.0 _ (tt, tree_good one h.1 r g))
  form_good (cases on arms) h r g = (tt, tree_good on h.0 _ (tt, arms_good arms h.1 _ (tt, g)))
  form_good (foreach x from to body) h r g = (tt, (tt, (h.0, (tt, (omega (arith, h.1), (tt, (omega (arith, h.2), (tt, tree_good body h.4 r g))))))))
  form_good (check test text) h r g = (tt, (tt, tree_good test h.0 _ (tt, (h.1, (tt, g)))))
  form_good exit h r g = (tt, (tt, (tt, g)))
  form_good (assign x by) h r g = (h.0, (tt, tree_good by h.1 r g))
  form_good (block steps) h r g = (tt, steps_good steps h _ (tt, g))

  chain_good : (op : Infix) (ts : Trees) → IsFormedChain op ts → AreGood (chain_signs op ts)
  chain_good op none h r g = g
  chain_good op (some t ts) h r g = operand_good (is_operand t) (signs t) (tree_good t h.0) _ (rest_good op ts h.1 r g)

  rest_good : (op : Infix) (ts : Trees) → IsFormedRest op ts → AreGood (more_chain_signs op ts)
  rest_good op none h r g = g
  rest_good op (some t none) h r g = (tt, operand_good (is_operand t) (signs t) (tree_good t h) _ g)
  rest_good op (some t (some u ts)) h r g = (tt, operand_good (is_operand t) (signs t) (tree_good t h.0) _ (rest_good op (some u ts) h.2 r g))

  arguments_good : (ts : Trees) → AreFormed ts → AreGood (arguments_signs ts)
  arguments_good none h r g = g
  arguments_good (some t ts) h r g = tree_good t h.0 _ (more_arguments_good ts h.1 r g)

  more_arguments_good : (ts : Trees) → AreFormed ts → AreGood (more_arguments_signs ts)
  more_arguments_good none h r g = g
  more_arguments_good (some t ts) h r g = (tt, tree_good t h.0 _ (more_arguments_good ts h.1 r g))

  arm_good : (c : Case) → IsFormedCase c → AreGood (arm_signs c)
  arm_good (arm p body) h r g = pattern_good p h.0 _ (tt, tree_good body h.1 r g)

  arms_good : (cs : Cases) → AreFormedCases cs → AreGood (arms_signs cs)
  arms_good no_case h r g = g
  arms_good (case c no_case) h r g = arm_good c h r g
  arms_good (case c (case d rest)) h r g = arm_good c h.0 _ (more_arms_good (case d rest) h.1 r g)

  more_arms_good : (cs : Cases) → AreFormedCases cs → AreGood (more_arms_signs cs)
  more_arms_good no_case h r g = g
  more_arms_good (case c no_case) h r g = (tt, arm_good c h r g)
  more_arms_good (case c (case d rest)) h r g = (tt, arm_good c h.0 _ (more_arms_good (case d rest) h.1 r g))

  step_good : (s : Step) → IsFormedStep s → AreGood (step_signs s)
  step_good (binds x ty by) h r g = (tt, (h.0, written_good ty h.1 _ (tt, tree_good by h.2 r g)))
  step_good (holds x ty by) h r g = (tt, (h.0, written_good ty h.1 _ (tt, tree_good by h.2 r g)))
  step_good (does e) h r g = tree_good e h r g

  steps_good : (ss : Steps) → AreFormedSteps ss → AreGood (steps_signs ss)
  steps_good done h r g = g
  steps_good (next s rest) h r g = step_good s h.0 _ (more_steps_good rest h.1 r g)

  more_steps_good : (ss : Steps) → AreFormedSteps ss → AreGood (more_steps_signs ss)
  more_steps_good done h r g = g
  more_steps_good (next s rest) h r g = (tt, later_good (is_done rest && is_unit s) (step_signs s) (step_good s h.0) _ (more_steps_good rest h.1 r g))

-- ---- programs

definition_good : (d : Definition) → IsFormedDefinition d → AreGood (definition_signs d)
definition_good order h r g = (tt, (tt, (tt, g)))
definition_good (register x width at) h r g = (tt, (h.0, (tt, width_good width h.1 r g)))
definition_good (enumeration x members at) h r g = (tt, (h.0, (tt, (tt, names_good members h.1 _ (tt, g)))))
definition_good (signature x args result at) h r g = (tt, (h.0, (tt, (tt, types_good args h.1 _ (tt, (tt, type_good result h.2 r g))))))
definition_good (function f) h r g = (tt, (h.0, (tt, params_good f.params h.1 _ (tt, (tt, type_good f.result h.2 _ (tt, tree_good f.body h.3 r g))))))

definitions_good : (ds : List Definition) → AreFormedDefinitions ds → AreSigns (program_signs ds)
definitions_good [] h = tt
definitions_good (d ∷ ds) h = definition_good d h.0 _ (definitions_good ds h.1)

pub program_good : (ds : List Definition) → IsFormedProgram ds → AreSigns (program_signs ds)
program_good [] h = tt
program_good (order ∷ ds) h = (tt, (tt, (tt, definitions_good ds h)))
program_good (register x width at ∷ ds) h = definitions_good (register x width at ∷ ds) h
program_good (enumeration x members at ∷ ds) h = definitions_good (enumeration x members at ∷ ds) h
program_good (signature x args result at ∷ ds) h = definitions_good (signature x args result at ∷ ds) h
program_good (function f ∷ ds) h = definitions_good (function f ∷ ds) h
