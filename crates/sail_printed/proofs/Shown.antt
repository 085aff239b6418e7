-- The signs that a program is printed as, in front of those that stand behind it.
use Rattle.std.proofs.Common.{ℕ, zero, suc, ◌+◌, Bool, true, false, ◌&&◌, List, [], ◌∷◌, ◌++◌, length, Option, Some, None}
use Rattle.bv_bits.specs.declared.Bits.{Bits}
use Rattle.sail_syntax.specs.Tree.{Text, Tree, node, Form, unit, lit, truth, name, chain, flip, slice, update, call, widen, choose, when, cases, foreach, check, exit, assign, block, Trees, none, some, Case, arm, Cases, no_case, case, Step, binds, holds, does, Steps, done, next}
use Rattle.sail_syntax.specs.Program.{Definition, Function, order, register, enumeration, signature, function}
use Rattle.sail_syntax.specs.declared.tree.Infix.{Infix}
use Rattle.sail_syntax.specs.declared.tree.Infix.TheVariants as between
use Rattle.sail_syntax.specs.declared.tree.Index.{Index}
use Rattle.sail_syntax.specs.declared.patterns.Pattern.{Pattern}
use Rattle.sail_syntax.specs.declared.patterns.Pattern.TheVariants as pattern
use Rattle.sail_syntax.specs.declared.patterns.Part.{Part}
use Rattle.sail_syntax.specs.declared.patterns.Part.TheVariants as part
use Rattle.sail_syntax.specs.declared.types.Ty.{Ty}
use Rattle.sail_syntax.specs.declared.types.Ty.TheVariants as ty
use Rattle.sail_syntax.specs.declared.types.Param.{Param}
use Rattle.sail_grammar.specs.declared.keyword.Keyword.{Keyword}
use Rattle.sail_grammar.specs.declared.keyword.Keyword.TheVariants as k
use Rattle.sail_grammar.specs.declared.mark.Mark.{Mark}
use Rattle.sail_grammar.specs.declared.mark.Mark.TheVariants as m
use Rattle.sail_grammar.specs.declared.word.Sign.{Sign}
use Rattle.sail_grammar.specs.declared.word.Sign.TheVariants as sign
use Rattle.sail_grammar.specs.Words.{Words}
use Rattle.sail_text.specs.Expressions.{is_operand, is_open, is_unit, is_done}
use Rattle.sail_printed.proofs.Signs.{sign_text}

abbrev pub Signs : Type 0
Signs = List Sign

abbrev pub kw : Keyword → Sign
kw w = sign.Keyword w

abbrev pub mk : Mark → Sign
mk w = sign.Mark w

-- ---- bytes and words

-- what stands in front of a sign: a newline where it begins a definition, else a space
abbrev pub keyword_gap : Keyword → ℕ
keyword_gap k.Default = 10
keyword_gap k.Register = 10
keyword_gap k.Enum = 10
keyword_gap k.Val = 10
keyword_gap k.Function = 10
keyword_gap w = 32

abbrev pub gap : Sign → ℕ
gap (sign.Keyword w) = keyword_gap w
gap s = 32

-- signs in a row, each with what stands in front of it, and a newline at the end
abbrev pub behind : Signs → Text
behind [] = 10 ∷ []
behind (s ∷ ss) = gap s ∷ (sign_text s ++ behind ss)

-- the place behind a sign and a byte
abbrev pub past : ℕ → Sign → ℕ
past at s = at + length (sign_text s) + 1

-- the words that they are, from a place on
abbrev pub placed : ℕ → Signs → Words
placed at [] = []
placed at (s ∷ ss) = record { sign = s; at = at } ∷ placed (past at s) ss

-- ---- what holds no expression

abbrev pub width_signs : ℕ → Signs → Signs
width_signs w r = kw k.Bits ∷ mk m.Open ∷ sign.Number w ∷ mk m.Close ∷ r

abbrev pub type_signs : Ty → Signs → Signs
type_signs ty.Unit r = kw k.Unit ∷ r
type_signs ty.Bool r = kw k.Bool ∷ r
type_signs (ty.Bits w) r = width_signs w r
type_signs (ty.Enum x) r = sign.Name x ∷ r

abbrev pub written_signs : Option Ty → Signs → Signs
written_signs None r = r
written_signs (Some t) r = mk m.Colon ∷ type_signs t r

abbrev pub plus_signs : ℕ → Signs → Signs
plus_signs zero r = r
plus_signs (suc n) r = sign.Operator between.Add ∷ sign.Number (suc n) ∷ r

abbrev pub index_part_signs : Option Text → ℕ → Signs → Signs
index_part_signs None n r = sign.Number n ∷ r
index_part_signs (Some x) n r = sign.Name x ∷ plus_signs n r

abbrev pub index_signs : Index → Signs → Signs
index_signs i r = index_part_signs i.var i.plus r

abbrev pub part_signs : Part → Signs → Signs
part_signs (part.Lit b) r = sign.Literal b ∷ r
part_signs (part.Bind x w) r = sign.Name x ∷ mk m.Colon ∷ width_signs w r
part_signs (part.Skip w) r = kw k.Wildcard ∷ mk m.Colon ∷ width_signs w r

abbrev pub more_parts_signs : List Part → Signs → Signs
more_parts_signs [] r = r
more_parts_signs (p ∷ ps) r = sign.Operator between.Join ∷ part_signs p (more_parts_signs ps r)

abbrev pub parts_signs : List Part → Signs → Signs
parts_signs [] r = r
parts_signs (p ∷ ps) r = part_signs p (more_parts_signs ps r)

abbrev pub truth_sign : Bool → Sign
truth_sign true = kw k.True
truth_sign false = kw k.False

abbrev pub pattern_signs : Pattern → Signs → Signs
pattern_signs pattern.Any r = kw k.Wildcard ∷ r
pattern_signs (pattern.Name x) r = sign.Name x ∷ r
pattern_signs (pattern.Lit b) r = sign.Literal b ∷ r
pattern_signs (pattern.Truth b) r = truth_sign b ∷ r
pattern_signs (pattern.Parts ps) r = parts_signs ps r

abbrev pub more_names_signs : List Text → Signs → Signs
more_names_signs [] r = r
more_names_signs (x ∷ xs) r = mk m.Comma ∷ sign.Name x ∷ more_names_signs xs r

abbrev pub names_signs : List Text → Signs → Signs
names_signs [] r = r
names_signs (x ∷ xs) r = sign.Name x ∷ more_names_signs xs r

abbrev pub more_types_signs : List Ty → Signs → Signs
more_types_signs [] r = r
more_types_signs (t ∷ ts) r = mk m.Comma ∷ type_signs t (more_types_signs ts r)

abbrev pub types_signs : List Ty → Signs → Signs
types_signs [] r = r
types_signs (t ∷ ts) r = type_signs t (more_types_signs ts r)

abbrev pub param_signs : Param → Signs → Signs
param_signs p r = sign.Name p.name ∷ mk m.Colon ∷ type_signs p.ty r

abbrev pub more_params_signs : List Param → Signs → Signs
more_params_signs [] r = r
more_params_signs (p ∷ ps) r = mk m.Comma ∷ param_signs p (more_params_signs ps r)

abbrev pub params_signs : List Param → Signs → Signs
params_signs [] r = r
params_signs (p ∷ ps) r = param_signs p (more_params_signs ps r)

-- ---- expressions

abbrev pub widen_word : Bool → Keyword
widen_word true = k.SignExtend
widen_word false = k.ZeroExtend

-- in parentheses, unless it can do without
abbrev pub operand_signs : Bool → (Signs → Signs) → Signs → Signs
operand_signs true f r = f r
operand_signs false f r = mk m.Open ∷ f (mk m.Close ∷ r)

-- in parentheses, where they are needed
abbrev pub closed_signs : Bool → (Signs → Signs) → Signs → Signs
closed_signs true f r = mk m.Open ∷ f (mk m.Close ∷ r)
closed_signs false f r = f r

-- not where it isn't printed
abbrev pub later_signs : Bool → (Signs → Signs) → Signs → Signs
later_signs true f r = r
later_signs false f r = f r

abbrev mutual
  pub signs : Tree → Signs → Signs
  signs (node at form) r = form_signs form r

  pub form_signs : Form → Signs → Signs
  form_signs unit r = mk m.Open ∷ mk m.Close ∷ r
  form_signs (lit b) r = sign.Literal b ∷ r
  form_signs (truth b) r = truth_sign b ∷ r
  form_signs (name x) r = sign.Name x ∷ r
  form_signs (chain op parts) r = chain_signs op parts r
  form_signs (flip of) r = mk m.Tilde ∷ mk m.Open ∷ signs of (mk m.Close ∷ r)
  form_signs (slice of hi lo) r = operand_signs (is_operand of) (signs of) (mk m.OpenSquare ∷ index_signs hi (mk m.Dots ∷ index_signs lo (mk m.CloseSquare ∷ r)))
  form_signs (update of hi lo by) r = mk m.OpenSquare ∷ signs of (kw k.With ∷ index_signs hi (mk m.Dots ∷ index_signs lo (mk m.Equals ∷ signs by (mk m.CloseSquare ∷ r))))
  form_signs (call f args) r = sign.Name f ∷ mk m.Open ∷ arguments_signs args (mk m.Close ∷ r)
  form_signs (widen signed to of) r = kw (widen_word signed) ∷ mk m.Open ∷ sign.Number to ∷ mk m.Comma ∷ signs of (mk m.Close ∷ r)
  form_signs (choose test one other) r = kw k.If ∷ signs test (kw k.Then ∷ closed_signs (is_open one) (signs one) (kw k.Else ∷ signs other r))
  form_signs (when test one) r = kw k.If ∷ signs test (kw k.Then ∷ signs one r)
  form_signs (cases on arms) r = kw k.Match ∷ signs on (mk m.OpenBrace ∷ arms_signs arms (mk m.CloseBrace ∷ r))
  form_signs (foreach x from to body) r =
      kw k.Foreach ∷ mk m.Open ∷ sign.Name x ∷ kw k.From ∷ sign.Number from ∷ kw k.To ∷ sign.Number to ∷ mk m.Close ∷ signs body r
  form_signs (check test text) r = kw k.Assert ∷ mk m.Open ∷ signs test (mk m.Comma ∷ sign.Text text ∷ mk m.Close ∷ r)
  form_signs exit r = kw k.Exit ∷ mk m.Open ∷ mk m.Close ∷ r
  form_signs (assign x by) r = sign.Name x ∷ mk m.Equals ∷ signs by r
  form_signs (block steps) r = mk m.OpenBrace ∷ steps_signs steps (mk m.CloseBrace ∷ r)

  pub chain_signs : Infix → Trees → Signs → Signs
  chain_signs op none r = r
  chain_signs op (some t ts) r = operand_signs (is_operand t) (signs t) (more_chain_signs op ts r)

  pub more_chain_signs : Infix → Trees → Signs → Signs
  more_chain_signs op none r = r
  more_chain_signs op (some t ts) r = sign.Operator op ∷ operand_signs (is_operand t) (signs t) (more_chain_signs op ts r)

  pub arguments_signs : Trees → Signs → Signs
  arguments_signs none r = r
  arguments_signs (some t ts) r = signs t (more_arguments_signs ts r)

  pub more_arguments_signs : Trees → Signs → Signs
  more_arguments_signs none r = r
  more_arguments_signs (some t ts) r = mk m.Comma ∷ signs t (more_arguments_signs ts r)

  pub arm_signs : Case → Signs → Signs
  arm_signs (arm p body) r = pattern_signs p (mk m.FatArrow ∷ signs body r)

  pub arms_signs : Cases → Signs → Signs
  arms_signs no_case r = r
  arms_signs (case c rest) r = arm_signs c (more_arms_signs rest r)

  pub more_arms_signs : Cases → Signs → Signs
  more_arms_signs no_case r = r
  more_arms_signs (case c rest) r = mk m.Comma ∷ arm_signs c (more_arms_signs rest r)

  pub step_signs : Step → Signs → Signs
  step_signs (binds x ty by) r = kw k.Let ∷ sign.Name x ∷ written_signs ty (mk m.Equals ∷ signs by r)
  step_signs (holds x ty by) r = kw k.Var ∷ sign.Name x ∷ written_signs ty (mk m.Equals ∷ signs by r)
  step_signs (does e) r = signs e r

  pub steps_signs : Steps → Signs → Signs
  steps_signs done r = r
  steps_signs (next s rest) r = step_signs s (more_steps_signs rest r)

  pub more_steps_signs : Steps → Signs → Signs
  more_steps_signs done r = r
  more_steps_signs (next s rest) r = mk m.Semicolon ∷ later_signs (is_done rest && is_unit s) (step_signs s) (more_steps_signs rest r)

-- ---- definitions

abbrev pub definition_signs : Definition → Signs → Signs
definition_signs order r = kw k.Default ∷ kw k.Order ∷ kw k.Dec ∷ r
definition_signs (register x width at) r = kw k.Register ∷ sign.Name x ∷ mk m.Colon ∷ width_signs width r
definition_signs (enumeration x members at) r = kw k.Enum ∷ sign.Name x ∷ mk m.Equals ∷ mk m.OpenBrace ∷ names_signs members (mk m.CloseBrace ∷ r)
definition_signs (signature x args result at) r =
    kw k.Val ∷ sign.Name x ∷ mk m.Colon ∷ mk m.Open ∷ types_signs args (mk m.Close ∷ mk m.Arrow ∷ type_signs result r)
definition_signs (function f) r =
    kw k.Function ∷ sign.Name f.name ∷ mk m.Open ∷ params_signs f.params (mk m.Close ∷ mk m.Arrow ∷ type_signs f.result (mk m.Equals ∷ signs f.body r))

abbrev pub program_signs : List Definition → Signs
program_signs [] = []
program_signs (d ∷ ds) = definition_signs d (program_signs ds)
