-- Which functions an expression calls.
use Rattle.std.specs.Prelude.{◌≡◌, List, [], ◌∷◌, ⊤, ◌⊎◌}
use Rattle.sail_syntax.specs.Tree.{Text, Tree, node, Form, unit, lit, truth, name, chain, flip, slice, update, call, widen, choose, when, cases, foreach, check, exit, assign, block, Trees, none, some, Case, arm, Cases, no_case, case, Step, binds, holds, does, Steps, done, next}

module _ (f : Text) where
  abbrev mutual
    -- the function is called somewhere in the expression
    pub CallsIn : Tree → Type 0
    CallsIn (node at form) = CallsInForm form

    -- the same, by what it is
    pub CallsInForm : Form → Type 0
    CallsInForm unit = ⊥
    CallsInForm (lit b) = ⊥
    CallsInForm (truth b) = ⊥
    CallsInForm (name x) = ⊥
    CallsInForm (chain op parts) = CallsInAny parts
    CallsInForm (flip of) = CallsIn of
    CallsInForm (slice of hi lo) = CallsIn of
    CallsInForm (update of hi lo by) = CallsIn of ⊎ CallsIn by
    CallsInForm (call g args) = (g ≡ f) ⊎ CallsInAny args
    CallsInForm (widen signed to of) = CallsIn of
    CallsInForm (choose test one other) = CallsIn test ⊎ (CallsIn one ⊎ CallsIn other)
    CallsInForm (when test one) = CallsIn test ⊎ CallsIn one
    CallsInForm (cases on arms) = CallsIn on ⊎ CallsInArms arms
    CallsInForm (foreach x from to body) = CallsIn body
    CallsInForm (check test text) = CallsIn test
    CallsInForm exit = ⊥
    CallsInForm (assign x by) = CallsIn by
    CallsInForm (block steps) = CallsInSteps steps

    -- in one of some expressions
    pub CallsInAny : Trees → Type 0
    CallsInAny none = ⊥
    CallsInAny (some t rest) = CallsIn t ⊎ CallsInAny rest

    -- in an arm
    pub CallsInArms : Cases → Type 0
    CallsInArms no_case = ⊥
    CallsInArms (case (arm p body) rest) = CallsIn body ⊎ CallsInArms rest

    -- in a statement
    pub CallsInStep : Step → Type 0
    CallsInStep (binds x t by) = CallsIn by
    CallsInStep (holds x t by) = CallsIn by
    CallsInStep (does e) = CallsIn e

    -- in one of some statements
    pub CallsInSteps : Steps → Type 0
    CallsInSteps done = ⊥
    CallsInSteps (next s rest) = CallsInStep s ⊎ CallsInSteps rest
