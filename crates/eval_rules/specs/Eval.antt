-- The meaning of expressions, by cases on the expression. It is total: what typing excludes gives unit and changes nothing.
use Rattle.std.specs.Prelude.{ℕ, zero, suc, ◌+◌, ◌-◌, List, [], ◌∷◌, ◌++◌, length, reverse, Option, Some, None, nat_eq, if◌then◌else◌}
use Rattle.sail_syntax.specs.Tree.{Text, Tree, node, Form, unit, lit, truth, name, chain, flip, slice, update, call, widen, choose, when, cases, foreach, check, exit, assign, block, Trees, none, some, arm, Cases, no_case, case, Step, binds, holds, does, Steps, done, next}
use Rattle.sail_syntax.specs.Program.{Definition, order, register, enumeration, signature, function}
use Rattle.sail_syntax.specs.declared.tree.Infix.{Infix}
use Rattle.sail_syntax.specs.declared.tree.Index.{Index}
use Rattle.sail_syntax.specs.declared.patterns.Pattern.{Pattern}
use Rattle.sail_syntax.specs.declared.types.Param.{Param}
use Rattle.state_core.specs.World.{World, fault}
use Rattle.state_core.specs.declared.kinds.FaultKind.{FaultKind}
use Rattle.state_core.specs.declared.kinds.FaultKind.TheVariants as kind
use Rattle.state_core.specs.declared.kinds.Range.{Range}
use Rattle.sail_values.specs.declared.value.Slot.{Slot}
use Rattle.sail_values.specs.declared.value.Local.TheVariants as local
use Rattle.sail_values.specs.declared.value.Value.{Value}
use Rattle.sail_values.specs.declared.value.Value.TheVariants as value
use Rattle.sail_values.specs.Values.{nth, flipped, widened, is_true, applied, decides}
use Rattle.sail_names.specs.declared.things.Thing.{Thing}
use Rattle.sail_names.specs.declared.things.Thing.TheVariants as thing
use Rattle.sail_names.specs.Things.{find_thing, things_of}
use Rattle.eval_rules.specs.Flow.{Out, gives, stops, Meaning, bind, pure, within}
use Rattle.eval_rules.specs.Parts.{index_at, sliced, updated, fits, pattern_bound}
use Rattle.eval_rules.specs.Prelude.{given_call}
use Rattle.eval_rules.specs.Names.{Setting, read, write, define}

-- ---- small steps

-- the bits of a value, with the foreach variables as they are now
abbrev pub slice_now : Index → Index → Value → Meaning Value
slice_now hi lo v = λ locals world. gives (sliced v (index_at hi locals) (index_at lo locals)) locals world

-- the bits of a value replaced, in the same way
abbrev pub update_now : Index → Index → Value → Value → Meaning Value
update_now hi lo v by = λ locals world. gives (updated v (index_at hi locals) (index_at lo locals) by) locals world

-- the names that a pattern binds
abbrev pub enter : Setting → Pattern → Value → Meaning Value
enter here p v = λ locals world. gives value.Unit (pattern_bound here.things p v locals) world

-- a fault at a place of the text
abbrev pub faulty : FaultKind → ℕ → Meaning Value
faulty k at = λ locals world. stops (fault k at) world

-- what the functions of the text do with arguments, each by the number of its definition
abbrev pub Calls : Type 0
Calls = ℕ → List Value → Meaning Value

-- a call of what a name stands for, at a place of the text
abbrev pub called : Setting → Calls → Option Thing → ℕ → List Value → Meaning Value
called here calls (Some (thing.Function i)) at vs = calls i vs
called here calls (Some (thing.Given g)) at vs = given_call here.ranges g at vs
called here calls (Some (thing.Register r)) at vs = pure value.Unit
called here calls (Some (thing.Member e i)) at vs = pure value.Unit
called here calls None at vs = pure value.Unit

-- the body for each of n numbers from i on
abbrev pub turns : ℕ → ℕ → (ℕ → Meaning Value) → Meaning Value
turns zero i body = pure value.Unit
turns (suc n) i body = bind (body i) (λ _. turns n (i + 1) body)

-- the body with the foreach variable at a number
abbrev pub counted : Text → Meaning Value → ℕ → Meaning Value
counted x body i = within (bind (define x (local.Counts i)) (λ _. body))

-- ---- expressions

module _ (here : Setting) (calls : Calls) where
  abbrev mutual
    -- an expression
    pub eval : Tree → Meaning Value
    eval (node at form) = eval_form form at

    -- what an expression is, and its place
    pub eval_form : Form → ℕ → Meaning Value
    eval_form unit at = pure value.Unit
    eval_form (lit b) at = pure (value.Bits b)
    eval_form (truth b) at = pure (value.Truth b)
    eval_form (name x) at = read here.things x
    eval_form (chain op parts) at = eval_chain parts op
    eval_form (flip of) at = bind (eval of) (λ v. pure (flipped v))
    eval_form (slice of hi lo) at = bind (eval of) (λ v. slice_now hi lo v)
    eval_form (update of hi lo by) at = bind (eval of) (λ v. bind (eval by) (λ u. update_now hi lo v u))
    eval_form (call f args) at = bind (eval_all args []) (λ vs. called here calls (find_thing f here.things) at vs)
    eval_form (widen signed to of) at = bind (eval of) (λ v. pure (widened signed to v))
    eval_form (choose test one other) at = bind (eval test) (λ v. if is_true v then eval one else eval other)
    eval_form (when test one) at = bind (eval test) (λ v. if is_true v then eval one else pure value.Unit)
    eval_form (cases on arms) at = bind (eval on) (λ v. eval_arms arms at v)
    eval_form (foreach x from to body) at = turns (to + 1 - from) from (counted x (eval body))
    eval_form (check test text) at = bind (eval test) (λ v. if is_true v then pure value.Unit else faulty kind.AssertFail at)
    eval_form exit at = faulty kind.Exit at
    eval_form (assign x by) at = bind (eval by) (λ v. write here.things x v)
    eval_form (block steps) at = within (eval_steps steps value.Unit)

    -- a chain, from the left
    pub eval_chain : Trees → Infix → Meaning Value
    eval_chain none op = pure value.Unit
    eval_chain (some t rest) op = bind (eval t) (λ v. eval_rest rest op v)

    -- the rest of a chain, after the value so far: of bools it ends where the left side alone decides
    pub eval_rest : Trees → Infix → Value → Meaning Value
    eval_rest none op v = pure v
    eval_rest (some t rest) op v = if decides op v then pure v else bind (eval t) (λ u. eval_rest rest op (applied op v u))

    -- arguments, after the values so far
    pub eval_all : Trees → List Value → Meaning (List Value)
    eval_all none vs = pure vs
    eval_all (some t rest) vs = bind (eval t) (λ v. eval_all rest (vs ++ v ∷ []))

    -- the first arm that fits, of a match at a place
    pub eval_arms : Cases → ℕ → Value → Meaning Value
    eval_arms no_case at v = faulty kind.MatchFail at
    eval_arms (case (arm p body) rest) at v =
        if fits here.things p v then within (bind (enter here p v) (λ _. eval body)) else eval_arms rest at v

    -- a statement
    pub eval_step : Step → Meaning Value
    eval_step (binds x ty by) = bind (eval by) (λ v. define x (local.Is v))
    eval_step (holds x ty by) = bind (eval by) (λ v. define x (local.Is v))
    eval_step (does e) = eval e

    -- statements, which have the last one's value
    pub eval_steps : Steps → Value → Meaning Value
    eval_steps done v = pure v
    eval_steps (next s rest) v = bind (eval_step s) (λ u. eval_steps rest u)

  -- one turn of a foreach
  abbrev pub turn : Text → Tree → ℕ → Meaning Value
  turn x body = counted x (eval body)

-- ---- the functions of a text

-- the parameters as locals
abbrev pub bound : List Param → List Value → ℕ → List Slot → List Slot
bound [] vs i locals = locals
bound (p ∷ ps) vs i locals = bound ps vs (i + 1) (record { name = p.name; local = local.Is (nth i vs) } ∷ locals)

-- the caller's locals stand
abbrev pub restores : List Slot → Out Value → Out Value
restores locals (gives v _ world) = gives v locals world
restores locals (stops why world) = stops why world

-- a call of a function, where those functions stand above it
abbrev pub entered : Setting → Calls → List Param → Tree → List Value → Meaning Value
entered here above params body vs = λ locals world. restores locals (eval here above body (bound params vs 0 []) world)

-- a function is called by the number of its definition, and calls those above it: from the definitions, the last one first
abbrev pub calls_of : Setting → List Definition → Calls
calls_of here [] i vs = pure value.Unit
calls_of here (order ∷ earlier) i vs = calls_of here earlier i vs
calls_of here (register x width at ∷ earlier) i vs = calls_of here earlier i vs
calls_of here (enumeration x members at ∷ earlier) i vs = calls_of here earlier i vs
calls_of here (signature x args result at ∷ earlier) i vs = calls_of here earlier i vs
calls_of here (function d ∷ earlier) i vs =
    if nat_eq i (length earlier) then entered here (calls_of here earlier) d.params d.body vs else calls_of here earlier i vs

-- what evaluation of a text needs, with devices in these ranges
abbrev pub setting_of : List Definition → List Range → Setting
setting_of defs ranges = record { things = things_of defs; ranges = ranges }

-- what a call of a name of a text gives, without locals, at a place
abbrev pub call_of : List Definition → List Range → Text → ℕ → List Value → World → Out Value
call_of defs ranges f at vs world =
    called (setting_of defs ranges) (calls_of (setting_of defs ranges) (reverse defs)) (find_thing f (things_of defs)) at vs [] world
