-- How high calls of functions are stacked.
use Rattle.std.specs.Prelude.{ℕ, ◌+◌, max, List, [], ◌∷◌, bytes_eq, if◌then◌else◌}
use Rattle.sail_syntax.specs.Tree.{Text, Tree, node, Form, unit, lit, truth, name, chain, flip, slice, update, call, widen, choose, when, cases, foreach, check, exit, assign, block, Trees, none, some, Case, arm, Cases, no_case, case, Step, binds, holds, does, Steps, done, next}

-- a function and its height
pub record Height : Type 0 where
  pub name : Text
  pub calls : ℕ

-- the height of a name; 0 for what is no function above, as the prelude's
abbrev pub height_of : Text → List Height → ℕ
height_of x [] = 0
height_of x (h ∷ rest) = if bytes_eq h.name x then h.calls else height_of x rest

module _ (known : List Height) where
  abbrev mutual
    -- the greatest height of the functions that an expression calls
    pub deepest : Tree → ℕ
    deepest (node at form) = deepest_form form

    -- the same, by what it is
    pub deepest_form : Form → ℕ
    deepest_form unit = 0
    deepest_form (lit b) = 0
    deepest_form (truth b) = 0
    deepest_form (name x) = 0
    deepest_form (chain op parts) = deepest_all parts
    deepest_form (flip of) = deepest of
    deepest_form (slice of hi lo) = deepest of
    deepest_form (update of hi lo by) = max (deepest of) (deepest by)
    deepest_form (call f args) = max (height_of f known) (deepest_all args)
    deepest_form (widen signed to of) = deepest of
    deepest_form (choose test one other) = max (deepest test) (max (deepest one) (deepest other))
    deepest_form (when test one) = max (deepest test) (deepest one)
    deepest_form (cases on arms) = max (deepest on) (deepest_arms arms)
    deepest_form (foreach x from to body) = deepest body
    deepest_form (check test text) = deepest test
    deepest_form exit = 0
    deepest_form (assign x by) = deepest by
    deepest_form (block steps) = deepest_steps steps

    -- the same of expressions in a row
    pub deepest_all : Trees → ℕ
    deepest_all none = 0
    deepest_all (some t rest) = max (deepest t) (deepest_all rest)

    -- of arms
    pub deepest_arms : Cases → ℕ
    deepest_arms no_case = 0
    deepest_arms (case (arm p body) rest) = max (deepest body) (deepest_arms rest)

    -- of a statement
    pub deepest_step : Step → ℕ
    deepest_step (binds x t by) = deepest by
    deepest_step (holds x t by) = deepest by
    deepest_step (does e) = deepest e

    -- of statements in a row
    pub deepest_steps : Steps → ℕ
    deepest_steps done = 0
    deepest_steps (next s rest) = max (deepest_step s) (deepest_steps rest)

  -- the height of a function: one more than the greatest of those that it calls
  abbrev pub own_height : Tree → ℕ
  own_height body = deepest body + 1

-- how high calls may be stacked
abbrev pub most_calls : ℕ
most_calls = 32
