-- How many levels of nesting the text of a program takes.
use Rattle.std.specs.Prelude.{ℕ, suc, max, Bool, true, false, ◌&&◌, if◌then◌else◌, List, [], ◌∷◌, Option, Some, None}
use Rattle.sail_syntax.specs.Tree.{Tree, node, Form, unit, lit, truth, name, chain, flip, slice, update, call, widen, choose, when, cases, foreach, check, exit, assign, block, Trees, none, some, Case, arm, Cases, no_case, case, Step, binds, holds, does, Steps, done, next}
use Rattle.sail_syntax.specs.Program.{Definition, Function, order, register, enumeration, signature, function}
use Rattle.sail_syntax.specs.declared.patterns.Pattern.{Pattern}
use Rattle.sail_syntax.specs.declared.patterns.Pattern.TheVariants as pattern
use Rattle.sail_syntax.specs.declared.patterns.Part.{Part}
use Rattle.sail_syntax.specs.declared.patterns.Part.TheVariants as part
use Rattle.sail_syntax.specs.declared.types.Ty.{Ty}
use Rattle.sail_syntax.specs.declared.types.Ty.TheVariants as ty
use Rattle.sail_syntax.specs.declared.types.Param.{Param}
use Rattle.sail_text.specs.Expressions.{is_operand, is_open, is_unit, is_done}

-- a type: the bracket of its width
abbrev pub type_levels : Ty → ℕ
type_levels ty.Unit = 0
type_levels ty.Bool = 0
type_levels (ty.Bits w) = 1
type_levels (ty.Enum x) = 0

-- the type that is written behind a name
abbrev pub written_levels : Option Ty → ℕ
written_levels None = 0
written_levels (Some t) = type_levels t

-- a part of a pattern
abbrev pub part_levels : Part → ℕ
part_levels (part.Lit b) = 0
part_levels (part.Bind x w) = 1
part_levels (part.Skip w) = 1

-- parts of a pattern
abbrev pub parts_levels : List Part → ℕ
parts_levels [] = 0
parts_levels (p ∷ ps) = max (part_levels p) (parts_levels ps)

-- a pattern
abbrev pub pattern_levels : Pattern → ℕ
pattern_levels pattern.Any = 0
pattern_levels (pattern.Name x) = 0
pattern_levels (pattern.Lit b) = 0
pattern_levels (pattern.Truth b) = 0
pattern_levels (pattern.Parts ps) = parts_levels ps

-- how many slices an expression ends with
abbrev pub slices : Tree → ℕ
slices (node at (slice of hi lo)) = suc (slices of)
slices (node at unit) = 0
slices (node at (lit b)) = 0
slices (node at (truth b)) = 0
slices (node at (name x)) = 0
slices (node at (chain op parts)) = 0
slices (node at (flip of)) = 0
slices (node at (update of hi lo by)) = 0
slices (node at (call f args)) = 0
slices (node at (widen signed to of)) = 0
slices (node at (choose test one other)) = 0
slices (node at (when test one)) = 0
slices (node at (cases on arms)) = 0
slices (node at (foreach x from to body)) = 0
slices (node at (check test text)) = 0
slices (node at exit) = 0
slices (node at (assign x by)) = 0
slices (node at (block steps)) = 0

-- one more in parentheses
abbrev pub enclosed_levels : Bool → ℕ → ℕ
enclosed_levels true n = suc n
enclosed_levels false n = n

-- one more in parentheses, unless it can do without
abbrev pub operand_levels : Bool → ℕ → ℕ
operand_levels true n = n
operand_levels false n = suc n

-- none where it isn't printed
abbrev pub later_levels : Bool → ℕ → ℕ
later_levels true n = 0
later_levels false n = n

abbrev mutual
  -- an expression
  pub levels : Tree → ℕ
  levels (node at form) = form_levels form

  -- what an expression is: a level for its bracket, or for its being an `if`, a `match` or an assignment
  pub form_levels : Form → ℕ
  form_levels unit = 1
  form_levels (lit b) = 0
  form_levels (truth b) = 0
  form_levels (name x) = 0
  form_levels (chain op parts) = chain_levels parts
  form_levels (flip of) = suc (levels of)
  form_levels (slice of hi lo) = max (operand_levels (is_operand of) (levels of)) (suc (slices of))
  form_levels (update of hi lo by) = suc (max (levels of) (levels by))
  form_levels (call f args) = suc (all_levels args)
  form_levels (widen signed to of) = suc (levels of)
  form_levels (choose test one other) = suc (max (levels test) (max (enclosed_levels (is_open one) (levels one)) (levels other)))
  form_levels (when test one) = suc (max (levels test) (levels one))
  form_levels (cases on arms) = suc (max (levels on) (suc (arms_levels arms)))
  form_levels (foreach x from to body) = levels body
  form_levels (check test text) = suc (levels test)
  form_levels exit = 1
  form_levels (assign x by) = suc (levels by)
  form_levels (block steps) = suc (steps_levels steps)

  -- the parts of a chain
  pub chain_levels : Trees → ℕ
  chain_levels none = 0
  chain_levels (some t ts) = max (operand_levels (is_operand t) (levels t)) (chain_levels ts)

  -- expressions in a row
  pub all_levels : Trees → ℕ
  all_levels none = 0
  all_levels (some t ts) = max (levels t) (all_levels ts)

  -- an arm of a match
  pub arm_levels : Case → ℕ
  arm_levels (arm p body) = max (pattern_levels p) (levels body)

  -- arms in a row
  pub arms_levels : Cases → ℕ
  arms_levels no_case = 0
  arms_levels (case c rest) = max (arm_levels c) (arms_levels rest)

  -- a statement
  pub step_levels : Step → ℕ
  step_levels (binds x ty by) = max (written_levels ty) (levels by)
  step_levels (holds x ty by) = max (written_levels ty) (levels by)
  step_levels (does e) = levels e

  -- statements in a row
  pub steps_levels : Steps → ℕ
  steps_levels done = 0
  steps_levels (next s rest) = max (step_levels s) (more_steps_levels rest)

  -- statements behind the first one: a `()` at the end isn't printed
  pub more_steps_levels : Steps → ℕ
  more_steps_levels done = 0
  more_steps_levels (next s rest) = max (later_levels (is_done rest && is_unit s) (step_levels s)) (more_steps_levels rest)

-- types in a row
abbrev pub types_levels : List Ty → ℕ
types_levels [] = 0
types_levels (t ∷ ts) = max (type_levels t) (types_levels ts)

-- parameters in a row
abbrev pub params_levels : List Param → ℕ
params_levels [] = 0
params_levels (p ∷ ps) = max (type_levels p.ty) (params_levels ps)

-- a definition
abbrev pub definition_levels : Definition → ℕ
definition_levels order = 0
definition_levels (register x width at) = 1
definition_levels (enumeration x members at) = 1
definition_levels (signature x args result at) = max (suc (types_levels args)) (type_levels result)
definition_levels (function f) = max (suc (params_levels f.params)) (max (type_levels f.result) (levels f.body))

-- a program
abbrev pub program_levels : List Definition → ℕ
program_levels [] = 0
program_levels (d ∷ ds) = max (definition_levels d) (program_levels ds)
