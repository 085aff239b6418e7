-- The texts of expressions.
--
-- Each token has one space before it. Parentheses stand exactly where they are needed: round an expression that isn't an operand as a part of a chain
-- or before a slice, and round what stands between `then` and `else` and ends open.
use Rattle.std.specs.Prelude.{ℕ, Bool, true, false, not, ◌&&◌, if◌then◌else◌, [], ◌∷◌, ◌++◌, codes}
use Rattle.sail_syntax.specs.declared.tree.Infix.{Infix}
use Rattle.sail_syntax.specs.Tree.{Text, Tree, node, Form, unit, lit, truth, name, chain, flip, slice, update, call, widen, choose, when, cases, foreach, check, exit, assign, block, Trees, none, some, Case, arm, Cases, no_case, case, Step, binds, holds, does, Steps, done, next}
use Rattle.sail_text.specs.Parts.{name_text, number_text, bits_text, truth_text, infix_text, written_text, index_text, pattern_text}

-- whether an expression can stand in a chain and before a slice as it is
abbrev pub is_operand : Tree → Bool
is_operand (node at (chain op parts)) = false
is_operand (node at (choose test one other)) = false
is_operand (node at (when test one)) = false
is_operand (node at (cases on arms)) = false
is_operand (node at (foreach x from to body)) = false
is_operand (node at (assign x by)) = false
is_operand (node at unit) = true
is_operand (node at (lit b)) = true
is_operand (node at (truth b)) = true
is_operand (node at (name x)) = true
is_operand (node at (flip of)) = true
is_operand (node at (slice of hi lo)) = true
is_operand (node at (update of hi lo by)) = true
is_operand (node at (call f args)) = true
is_operand (node at (widen signed to of)) = true
is_operand (node at (check test text)) = true
is_operand (node at exit) = true
is_operand (node at (block steps)) = true

-- whether an expression ends open: an `else` behind it would belong to an `if` in it
abbrev pub is_open : Tree → Bool
is_open (node at (when test one)) = true
is_open (node at (choose test one other)) = is_open other
is_open (node at (assign x by)) = is_open by
is_open (node at unit) = false
is_open (node at (lit b)) = false
is_open (node at (truth b)) = false
is_open (node at (name x)) = false
is_open (node at (chain op parts)) = false
is_open (node at (flip of)) = false
is_open (node at (slice of hi lo)) = false
is_open (node at (update of hi lo by)) = false
is_open (node at (call f args)) = false
is_open (node at (widen signed to of)) = false
is_open (node at (cases on arms)) = false
is_open (node at (foreach x from to body)) = false
is_open (node at (check test text)) = false
is_open (node at exit) = false
is_open (node at (block steps)) = false

-- whether a statement is the expression `()`
abbrev pub is_unit : Step → Bool
is_unit (does (node at unit)) = true
is_unit (does (node at (lit b))) = false
is_unit (does (node at (truth b))) = false
is_unit (does (node at (name x))) = false
is_unit (does (node at (chain op parts))) = false
is_unit (does (node at (flip of))) = false
is_unit (does (node at (slice of hi lo))) = false
is_unit (does (node at (update of hi lo by))) = false
is_unit (does (node at (call f args))) = false
is_unit (does (node at (widen signed to of))) = false
is_unit (does (node at (choose test one other))) = false
is_unit (does (node at (when test one))) = false
is_unit (does (node at (cases on arms))) = false
is_unit (does (node at (foreach x from to body))) = false
is_unit (does (node at (check test text))) = false
is_unit (does (node at exit)) = false
is_unit (does (node at (assign x by))) = false
is_unit (does (node at (block steps))) = false
is_unit (binds x ty by) = false
is_unit (holds x ty by) = false

-- whether no statement stands in a row
abbrev pub is_done : Steps → Bool
is_done done = true
is_done (next s rest) = false

-- a text in parentheses, where they are needed
abbrev pub enclosed : Bool → Text → Text
enclosed true z = codes " (" ++ (z ++ codes " )")
enclosed false z = z

-- the word of a widening
abbrev pub widen_text : Bool → Text
widen_text true = codes " sign_extend ("
widen_text false = codes " zero_extend ("

abbrev mutual
  -- an expression
  pub tree_text : Tree → Text
  tree_text (node at form) = form_text form

  -- what an expression is
  pub form_text : Form → Text
  form_text unit = codes " ( )"
  form_text (lit b) = bits_text b
  form_text (truth b) = truth_text b
  form_text (name x) = name_text x
  form_text (chain op parts) = chain_text op parts
  form_text (flip of) = codes " ~ (" ++ (tree_text of ++ codes " )")
  form_text (slice of hi lo) = enclosed (not (is_operand of)) (tree_text of) ++ (codes " [" ++ (index_text hi ++ (codes " .." ++ (index_text lo ++ codes " ]"))))
  form_text (update of hi lo by) =
      codes " [" ++ (tree_text of ++ (codes " with" ++ (index_text hi ++ (codes " .." ++ (index_text lo ++ (codes " =" ++ (tree_text by ++ codes " ]")))))))
  form_text (call f args) = name_text f ++ (codes " (" ++ (arguments_text args ++ codes " )"))
  form_text (widen signed to of) = widen_text signed ++ (number_text to ++ (codes " ," ++ (tree_text of ++ codes " )")))
  form_text (choose test one other) =
      codes " if" ++ (tree_text test ++ (codes " then" ++ (enclosed (is_open one) (tree_text one) ++ (codes " else" ++ tree_text other))))
  form_text (when test one) = codes " if" ++ (tree_text test ++ (codes " then" ++ tree_text one))
  form_text (cases on arms) = codes " match" ++ (tree_text on ++ (codes " {" ++ (arms_text arms ++ codes " }")))
  form_text (foreach x from to body) =
      codes " foreach (" ++ (name_text x ++ (codes " from" ++ (number_text from ++ (codes " to" ++ (number_text to ++ (codes " )" ++ tree_text body))))))
  form_text (check test text) = codes " assert (" ++ (tree_text test ++ (codes " , \"" ++ (text ++ codes "\" )")))
  form_text exit = codes " exit ( )"
  form_text (assign x by) = name_text x ++ (codes " =" ++ tree_text by)
  form_text (block steps) = codes " {" ++ (steps_text steps ++ codes " }")

  -- the parts of a chain
  pub chain_text : Infix → Trees → Text
  chain_text op none = []
  chain_text op (some t ts) = enclosed (not (is_operand t)) (tree_text t) ++ more_chain_text op ts

  -- the parts of a chain behind the first one
  pub more_chain_text : Infix → Trees → Text
  more_chain_text op none = []
  more_chain_text op (some t ts) = infix_text op ++ (enclosed (not (is_operand t)) (tree_text t) ++ more_chain_text op ts)

  -- arguments in a row
  pub arguments_text : Trees → Text
  arguments_text none = []
  arguments_text (some t ts) = tree_text t ++ more_arguments_text ts

  -- arguments behind the first one
  pub more_arguments_text : Trees → Text
  more_arguments_text none = []
  more_arguments_text (some t ts) = codes " ," ++ (tree_text t ++ more_arguments_text ts)

  -- an arm of a match
  pub arm_text : Case → Text
  arm_text (arm p body) = pattern_text p ++ (codes " =>" ++ tree_text body)

  -- arms in a row
  pub arms_text : Cases → Text
  arms_text no_case = []
  arms_text (case c rest) = arm_text c ++ more_arms_text rest

  -- arms behind the first one
  pub more_arms_text : Cases → Text
  more_arms_text no_case = []
  more_arms_text (case c rest) = codes " ," ++ (arm_text c ++ more_arms_text rest)

  -- a statement
  pub step_text : Step → Text
  step_text (binds x ty by) = codes " let" ++ (name_text x ++ (written_text ty ++ (codes " =" ++ tree_text by)))
  step_text (holds x ty by) = codes " var" ++ (name_text x ++ (written_text ty ++ (codes " =" ++ tree_text by)))
  step_text (does e) = tree_text e

  -- statements in a row
  pub steps_text : Steps → Text
  steps_text done = []
  steps_text (next s rest) = step_text s ++ more_steps_text rest

  -- statements behind the first one: of a `()` at the end the `;` alone stands
  pub more_steps_text : Steps → Text
  more_steps_text done = []
  more_steps_text (next s rest) = codes " ;" ++ ((if is_done rest && is_unit s then [] else step_text s) ++ more_steps_text rest)
