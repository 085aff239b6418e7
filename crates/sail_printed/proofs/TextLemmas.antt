-- The text of a program is that of its signs.
use Rattle.std.proofs.Common.{◌≡◌, ℕ, zero, suc, Bool, true, false, not, ◌&&◌, List, [], ◌∷◌, ◌++◌, Option, Some, None, append_assoc, refl, sym, ap, ◌∙◌}
use Rattle.std.specs.Prelude.{if◌then◌else◌, codes}
use Rattle.sail_syntax.specs.Tree.{Text, Tree, node, Form, unit, lit, truth, name, chain, flip, slice, update, call, widen, choose, when, cases, foreach, check, exit, assign, block, Trees, none, some, Case, arm, Cases, no_case, case, Step, binds, holds, does, Steps, done, next}
use Rattle.sail_syntax.specs.Program.{Definition, Function, order, register, enumeration, signature, function}
use Rattle.sail_syntax.specs.declared.tree.Infix.{Infix}
use Rattle.sail_syntax.specs.declared.tree.Infix.TheVariants as between
use Rattle.sail_syntax.specs.declared.tree.Index.{Index}
use Rattle.sail_syntax.specs.declared.patterns.Pattern.{Pattern}
use Rattle.sail_syntax.specs.declared.patterns.Pattern.TheVariants as pattern
use Rattle.sail_syntax.specs.declared.patterns.Part.{Part}
use Rattle.sail_syntax.specs.declared.patterns.Part.TheVariants as part
use Rattle.sail_syntax.specs.declared.types.Ty.{Ty}
use Rattle.sail_syntax.specs.declared.types.Ty.TheVariants as ty
use Rattle.sail_syntax.specs.declared.types.Param.{Param}
use Rattle.sail_grammar.specs.declared.keyword.Keyword.TheVariants as k
use Rattle.sail_grammar.specs.declared.mark.Mark.TheVariants as m
use Rattle.sail_grammar.specs.declared.word.Sign.{Sign}
use Rattle.sail_grammar.specs.declared.word.Sign.TheVariants as sign
use Rattle.sail_text.specs.Parts.{truth_text, infix_text, width_text, type_text, written_text, plus_text, index_parts, index_text, part_text, more_parts_text, parts_text, pattern_text, more_names_text, names_text, more_types_text, types_text, param_text, more_params_text, params_text}
use Rattle.sail_text.specs.Expressions.{is_operand, is_open, is_unit, is_done, enclosed, widen_text, tree_text, form_text, chain_text, more_chain_text, arguments_text, more_arguments_text, arm_text, arms_text, more_arms_text, step_text, steps_text, more_steps_text}
use Rattle.sail_text.specs.Definitions.{definition_text, printed}
use Rattle.sail_printed.proofs.Signs.{sign_text}
use Rattle.sail_printed.proofs.Shown.{Signs, kw, mk, gap, behind, width_signs, type_signs, written_signs, plus_signs, index_part_signs, index_signs, part_signs, more_parts_signs, parts_signs, truth_sign, pattern_signs, more_names_signs, names_signs, more_types_signs, types_signs, param_signs, more_params_signs, params_signs, widen_word, operand_signs, closed_signs, later_signs, signs, form_signs, chain_signs, more_chain_signs, arguments_signs, more_arguments_signs, arm_signs, arms_signs, more_arms_signs, step_signs, steps_signs, more_steps_signs, definition_signs, program_signs}

-- ---- pieces of a text

-- a text is these signs, wherever it stands in front of others
abbrev AreSignsOf : Text → (Signs → Signs) → Type 0
AreSignsOf z f = (r : Signs) → z ++ behind r ≡ behind (f r)

-- a text with its signs
record Piece : Type 0 where
  text : Text
  signs : Signs → Signs
  are : AreSignsOf text signs

-- one sign
abbrev one : Sign → Piece
one s = record { text = gap s ∷ sign_text s; signs = λ r. s ∷ r; are = λ r. refl }

-- pieces in a row
abbrev row_text : List Piece → Text
row_text [] = []
row_text (p ∷ []) = p.text
row_text (p ∷ q ∷ ps) = p.text ++ row_text (q ∷ ps)

abbrev row_signs : List Piece → Signs → Signs
row_signs [] r = r
row_signs (p ∷ ps) r = p.signs (row_signs ps r)

row : (ps : List Piece) → AreSignsOf (row_text ps) (row_signs ps)
row [] r = refl
row (p ∷ []) r = p.are r
row (p ∷ q ∷ ps) r = append_assoc p.text (row_text (q ∷ ps)) (behind r) ∙ ap (λ z. p.text ++ z) (row (q ∷ ps) r) ∙ p.are (row_signs (q ∷ ps) r)

-- ---- what holds no expression

width_are : (w : ℕ) → AreSignsOf (width_text w) (width_signs w)
width_are w r = row (one (kw k.Bits) ∷ one (mk m.Open) ∷ one (sign.Number w) ∷ one (mk m.Close) ∷ []) r

abbrev a_width : ℕ → Piece
a_width w = record { text = width_text w; signs = width_signs w; are = width_are w }

type_are : (t : Ty) → AreSignsOf (type_text t) (type_signs t)
type_are ty.Unit r = refl
type_are ty.Bool r = refl
type_are (ty.Bits w) r = width_are w r
type_are (ty.Enum x) r = refl

abbrev a_type : Ty → Piece
a_type t = record { text = type_text t; signs = type_signs t; are = type_are t }

written_are : (t : Option Ty) → AreSignsOf (written_text t) (written_signs t)
written_are None r = refl
written_are (Some t) r = row (one (mk m.Colon) ∷ a_type t ∷ []) r

plus_are : (n : ℕ) → AreSignsOf (plus_text n) (plus_signs n)
plus_are zero r = refl
plus_are (suc n) r = refl

index_parts_are : (x : Option Text) (n : ℕ) → AreSignsOf (index_parts x n) (index_part_signs x n)
index_parts_are None n r = refl
index_parts_are (Some x) n r = row (one (sign.Name x) ∷ record { text = plus_text n; signs = plus_signs n; are = plus_are n } ∷ []) r

abbrev an_index : Index → Piece
an_index i = record { text = index_text i; signs = index_signs i; are = index_parts_are i.var i.plus }

part_are : (p : Part) → AreSignsOf (part_text p) (part_signs p)
part_are (part.Lit b) r = refl
part_are (part.Bind x w) r = row (one (sign.Name x) ∷ one (mk m.Colon) ∷ a_width w ∷ []) r
part_are (part.Skip w) r = row (one (kw k.Wildcard) ∷ one (mk m.Colon) ∷ a_width w ∷ []) r

abbrev a_part : Part → Piece
a_part p = record { text = part_text p; signs = part_signs p; are = part_are p }

more_parts_are : (ps : List Part) → AreSignsOf (more_parts_text ps) (more_parts_signs ps)
more_parts_are [] r = refl
more_parts_are (p ∷ ps) r = row (one (sign.Operator between.Join) ∷ a_part p ∷ record { text = more_parts_text ps; signs = more_parts_signs ps; are = more_parts_are ps } ∷ []) r

parts_are : (ps : List Part) → AreSignsOf (parts_text ps) (parts_signs ps)
parts_are [] r = refl
parts_are (p ∷ ps) r = row (a_part p ∷ record { text = more_parts_text ps; signs = more_parts_signs ps; are = more_parts_are ps } ∷ []) r

truth_are : (b : Bool) → AreSignsOf (truth_text b) (λ r. truth_sign b ∷ r)
truth_are true r = refl
truth_are false r = refl

pattern_are : (p : Pattern) → AreSignsOf (pattern_text p) (pattern_signs p)
pattern_are pattern.Any r = refl
pattern_are (pattern.Name x) r = refl
pattern_are (pattern.Lit b) r = refl
pattern_are (pattern.Truth b) r = truth_are b r
pattern_are (pattern.Parts ps) r = parts_are ps r

more_names_are : (xs : List Text) → AreSignsOf (more_names_text xs) (more_names_signs xs)
more_names_are [] r = refl
more_names_are (x ∷ xs) r = row (one (mk m.Comma) ∷ one (sign.Name x) ∷ record { text = more_names_text xs; signs = more_names_signs xs; are = more_names_are xs } ∷ []) r

names_are : (xs : List Text) → AreSignsOf (names_text xs) (names_signs xs)
names_are [] r = refl
names_are (x ∷ xs) r = row (one (sign.Name x) ∷ record { text = more_names_text xs; signs = more_names_signs xs; are = more_names_are xs } ∷ []) r

more_types_are : (ts : List Ty) → AreSignsOf (more_types_text ts) (more_types_signs ts)
more_types_are [] r = refl
more_types_are (t ∷ ts) r = row (one (mk m.Comma) ∷ a_type t ∷ record { text = more_types_text ts; signs = more_types_signs ts; are = more_types_are ts } ∷ []) r

types_are : (ts : List Ty) → AreSignsOf (types_text ts) (types_signs ts)
types_are [] r = refl
types_are (t ∷ ts) r = row (a_type t ∷ record { text = more_types_text ts; signs = more_types_signs ts; are = more_types_are ts } ∷ []) r

param_are : (p : Param) → AreSignsOf (param_text p) (param_signs p)
param_are p r = row (one (sign.Name p.name) ∷ one (mk m.Colon) ∷ a_type p.ty ∷ []) r

abbrev a_param : Param → Piece
a_param p = record { text = param_text p; signs = param_signs p; are = param_are p }

more_params_are : (ps : List Param) → AreSignsOf (more_params_text ps) (more_params_signs ps)
more_params_are [] r = refl
more_params_are (p ∷ ps) r = row (one (mk m.Comma) ∷ a_param p ∷ record { text = more_params_text ps; signs = more_params_signs ps; are = more_params_are ps } ∷ []) r

params_are : (ps : List Param) → AreSignsOf (params_text ps) (params_signs ps)
params_are [] r = refl
params_are (p ∷ ps) r = row (a_param p ∷ record { text = more_params_text ps; signs = more_params_signs ps; are = more_params_are ps } ∷ []) r

infix_are : (op : Infix) → AreSignsOf (infix_text op) (λ r. sign.Operator op ∷ r)
infix_are between.Add r = refl
infix_are op r = refl

abbrev an_infix : Infix → Piece
an_infix op = record { text = infix_text op; signs = λ r. sign.Operator op ∷ r; are = infix_are op }

widen_are : (b : Bool) → AreSignsOf (widen_text b) (λ r. kw (widen_word b) ∷ mk m.Open ∷ r)
widen_are true r = refl
widen_are false r = refl

-- a text in quotes, behind a `,` and in front of a `)`
quoted_are : (z : Text) → AreSignsOf (codes " , \"" ++ (z ++ codes "\" )")) (λ r. mk m.Comma ∷ sign.Text z ∷ mk m.Close ∷ r)
quoted_are z r = ap (λ y. codes " , \"" ++ y) (append_assoc z (codes "\" )") (behind r) ∙ sym (append_assoc z (34 ∷ []) (behind (mk m.Close ∷ r))))

-- ---- expressions

in_parentheses : (z : Text) (f : Signs → Signs) → AreSignsOf z f → AreSignsOf (codes " (" ++ (z ++ codes " )")) (λ r. mk m.Open ∷ f (mk m.Close ∷ r))
in_parentheses z f h r = row (one (mk m.Open) ∷ record { text = z; signs = f; are = h } ∷ one (mk m.Close) ∷ []) r

operand_are : (b : Bool) (z : Text) (f : Signs → Signs) → AreSignsOf z f → AreSignsOf (enclosed (not b) z) (operand_signs b f)
operand_are true z f h r = h r
operand_are false z f h r = in_parentheses z f h r

closed_are : (b : Bool) (z : Text) (f : Signs → Signs) → AreSignsOf z f → AreSignsOf (enclosed b z) (closed_signs b f)
closed_are true z f h r = in_parentheses z f h r
closed_are false z f h r = h r

later_are : (b : Bool) (z : Text) (f : Signs → Signs) → AreSignsOf z f → AreSignsOf (if b then [] else z) (later_signs b f)
later_are true z f h r = refl
later_are false z f h r = h r

-- an expression, given that its text is its signs; as an operand; and between `then` and `else`
abbrev bare : (t : Tree) → AreSignsOf (tree_text t) (signs t) → Piece
bare t h = record { text = tree_text t; signs = signs t; are = h }

abbrev operand : (t : Tree) → AreSignsOf (tree_text t) (signs t) → Piece
operand t h = record { text = enclosed (not (is_operand t)) (tree_text t); signs = operand_signs (is_operand t) (signs t); are = operand_are (is_operand t) (tree_text t) (signs t) h }

abbrev closed : (t : Tree) → AreSignsOf (tree_text t) (signs t) → Piece
closed t h = record { text = enclosed (is_open t) (tree_text t); signs = closed_signs (is_open t) (signs t); are = closed_are (is_open t) (tree_text t) (signs t) h }

mutual
  tree_are : (t : Tree) → AreSignsOf (tree_text t) (signs t)
  tree_are (node at form) r = form_are form r

  form_are : (form : Form) → AreSignsOf (form_text form) (form_signs form)
  form_are unit r = refl
  form_are (lit b) r = refl
  form_are (truth b) r = truth_are b r
  form_are (name x) r = refl
  form_are (chain op parts) r = chain_are op parts r
  form_are (flip of) r = row (one (mk m.Tilde) ∷ one (mk m.Open) ∷ bare of (tree_are of) ∷ one (mk m.Close) ∷ []) r
  form_are (slice of hi lo) r = row (operand of (tree_are of) ∷ one (mk m.OpenSquare) ∷ an_index hi ∷ one (mk m.Dots) ∷ an_index lo ∷ one (mk m.CloseSquare) ∷ []) r
  form_are (update of hi lo by) r =
      row (one (mk m.OpenSquare) ∷ bare of (tree_are of) ∷ one (kw k.With) ∷ an_index hi ∷ one (mk m.Dots) ∷ an_index lo ∷ one (mk m.Equals) ∷ bare by (tree_are by) ∷ one (mk m.CloseSquare) ∷ []) r
  form_are (call f args) r = row (one (sign.Name f) ∷ one (mk m.Open) ∷ record { text = arguments_text args; signs = arguments_signs args; are = arguments_are args } ∷ one (mk m.Close) ∷ []) r
  form_are (widen signed to of) r =
      row (record { text = widen_text signed; signs = λ r. kw (widen_word signed) ∷ mk m.Open ∷ r; are = widen_are signed } ∷ one (sign.Number to) ∷ one (mk m.Comma) ∷ bare of (tree_are of) ∷ one (mk m.Close) ∷ []) r
  form_are (choose test first other) r = row (one (kw k.If) ∷ bare test (tree_are test) ∷ one (kw k.Then) ∷ closed first (tree_are first) ∷ one (kw k.Else) ∷ bare other (tree_are other) ∷ []) r
  form_are (when test first) r = row (one (kw k.If) ∷ bare test (tree_are test) ∷ one (kw k.Then) ∷ bare first (tree_are first) ∷ []) r
  form_are (cases on arms) r = row (one (kw k.Match) ∷ bare on (tree_are on) ∷ one (mk m.OpenBrace) ∷ record { text = arms_text arms; signs = arms_signs arms; are = arms_are arms } ∷ one (mk m.CloseBrace) ∷ []) r
  form_are (foreach x from to body) r =
      row (one (kw k.Foreach) ∷ one (mk m.Open) ∷ one (sign.Name x) ∷ one (kw k.From) ∷ one (sign.Number from) ∷ one (kw k.To) ∷ one (sign.Number to) ∷ one (mk m.Close) ∷ bare body (tree_are body) ∷ []) r
  form_are (check test text) r =
      row (one (kw k.Assert) ∷ one (mk m.Open) ∷ bare test (tree_are test)
      ∷ record { text = codes " , \"" ++ (text ++ codes "\" )"); signs = λ r. mk m.Comma ∷ sign.Text text ∷ mk m.Close ∷ r; are = quoted_are text } ∷ []) r
  form_are exit r = refl
  form_are (assign x by) r = row (one (sign.Name x) ∷ one (mk m.Equals) ∷ bare by (tree_are by) ∷ []) r
  form_are (block steps) r = row (one (mk m.OpenBrace) ∷ record { text = steps_text steps; signs = steps_signs steps; are = steps_are steps } ∷ one (mk m.CloseBrace) ∷ []) r

  chain_are : (op : Infix) (ts : Trees) → AreSignsOf (chain_text op ts) (chain_signs op ts)
  chain_are op none r = refl
  chain_are op (some t ts) r = row (operand t (tree_are t) ∷ record { text = more_chain_text op ts; signs = more_chain_signs op ts; are = more_chain_are op ts } ∷ []) r

  more_chain_are : (op : Infix) (ts : Trees) → AreSignsOf (more_chain_text op ts) (more_chain_signs op ts)
  more_chain_are op none r = refl
  more_chain_are op (some t ts) r = row (an_infix op ∷ operand t (tree_are t) ∷ record { text = more_chain_text op ts; signs = more_chain_signs op ts; are = more_chain_are op ts } ∷ []) r

  arguments_are : (ts : Trees) → AreSignsOf (arguments_text ts) (arguments_signs ts)
  arguments_are none r = refl
  arguments_are (some t ts) r = row (bare t (tree_are t) ∷ record { text = more_arguments_text ts; signs = more_arguments_signs ts; are = more_arguments_are ts } ∷ []) r

  more_arguments_are : (ts : Trees) → AreSignsOf (more_arguments_text ts) (more_arguments_signs ts)
  more_arguments_are none r = refl
  more_arguments_are (some t ts) r = row (one (mk m.Comma) ∷ bare t (tree_are t) ∷ record { text = more_arguments_text ts; signs = more_arguments_signs ts; are = more_arguments_are ts } ∷ []) r

  arm_are : (c : Case) → AreSignsOf (arm_text c) (arm_signs c)
  arm_are (arm p body) r = row (record { text = pattern_text p; signs = pattern_signs p; are = pattern_are p } ∷ one (mk m.FatArrow) ∷ bare body (tree_are body) ∷ []) r

  arms_are : (cs : Cases) → AreSignsOf (arms_text cs) (arms_signs cs)
  arms_are no_case r = refl
  arms_are (case c rest) r = row (record { text = arm_text c; signs = arm_signs c; are = arm_are c } ∷ record { text = more_arms_text rest; signs = more_arms_signs rest; are = more_arms_are rest } ∷ []) r

  more_arms_are : (cs : Cases) → AreSignsOf (more_arms_text cs) (more_arms_signs cs)
  more_arms_are no_case r = refl
  more_arms_are (case c rest) r =
      row (one (mk m.Comma) ∷ record { text = arm_text c; signs = arm_signs c; are = arm_are c } ∷ record { text = more_arms_text rest; signs = more_arms_signs rest; are = more_arms_are rest } ∷ []) r

  step_are : (s : Step) → AreSignsOf (step_text s) (step_signs s)
  step_are (binds x ty by) r = row (one (kw k.Let) ∷ one (sign.Name x) ∷ record { text = written_text ty; signs = written_signs ty; are = written_are ty } ∷ one (mk m.Equals) ∷ bare by (tree_are by) ∷ []) r
  step_are (holds x ty by) r = row (one (kw k.Var) ∷ one (sign.Name x) ∷ record { text = written_text ty; signs = written_signs ty; are = written_are ty } ∷ one (mk m.Equals) ∷ bare by (tree_are by) ∷ []) r
  step_are (does e) r = tree_are e r

  steps_are : (ss : Steps) → AreSignsOf (steps_text ss) (steps_signs ss)
  steps_are done r = refl
  steps_are (next s rest) r = row (record { text = step_text s; signs = step_signs s; are = step_are s } ∷ record { text = more_steps_text rest; signs = more_steps_signs rest; are = more_steps_are rest } ∷ []) r

  more_steps_are : (ss : Steps) → AreSignsOf (more_steps_text ss) (more_steps_signs ss)
  more_steps_are done r = refl
  more_steps_are (next s rest) r =
      let left_out = is_done rest && is_unit s in
      row (one (mk m.Semicolon)
      ∷ record { text = if left_out then [] else step_text s; signs = later_signs left_out (step_signs s); are = later_are left_out (step_text s) (step_signs s) (step_are s) }
      ∷ record { text = more_steps_text rest; signs = more_steps_signs rest; are = more_steps_are rest } ∷ []) r

-- ---- programs

definition_are : (d : Definition) (r : Signs) → 10 ∷ (definition_text d ++ behind r) ≡ behind (definition_signs d r)
definition_are order r = refl
definition_are (register x width at) r = row (one (kw k.Register) ∷ one (sign.Name x) ∷ one (mk m.Colon) ∷ a_width width ∷ []) r
definition_are (enumeration x members at) r =
    row (one (kw k.Enum) ∷ one (sign.Name x) ∷ one (mk m.Equals) ∷ one (mk m.OpenBrace) ∷ record { text = names_text members; signs = names_signs members; are = names_are members } ∷ one (mk m.CloseBrace) ∷ []) r
definition_are (signature x args result at) r =
    row (one (kw k.Val) ∷ one (sign.Name x) ∷ one (mk m.Colon) ∷ one (mk m.Open) ∷ record { text = types_text args; signs = types_signs args; are = types_are args }
    ∷ one (mk m.Close) ∷ one (mk m.Arrow) ∷ a_type result ∷ []) r
definition_are (function f) r =
    row (one (kw k.Function) ∷ one (sign.Name f.name) ∷ one (mk m.Open) ∷ record { text = params_text f.params; signs = params_signs f.params; are = params_are f.params }
    ∷ one (mk m.Close) ∷ one (mk m.Arrow) ∷ a_type f.result ∷ one (mk m.Equals) ∷ bare f.body (tree_are f.body) ∷ []) r

-- a program with a newline in front is its signs
pub program_is : (ds : List Definition) → 10 ∷ printed ds ≡ behind (program_signs ds)
program_is [] = refl
program_is (d ∷ ds) = ap (λ z. 10 ∷ (definition_text d ++ z)) (program_is ds) ∙ definition_are d (program_signs ds)
