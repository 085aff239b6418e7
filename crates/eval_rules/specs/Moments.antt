-- The moments of an evaluation: what it does with registers and memory, each with the world behind it, in order, by cases on the expression as its
-- meaning is. From them come the registers that it uses, and the worlds that it passes.
use Rattle.std.specs.Prelude.{◌≡◌, ◌⊎◌, ℕ, zero, suc, ◌+◌, ◌-◌, ◌&&◌, nat_le, Bool, true, false, List, [], ◌∷◌, ◌++◌, reverse, length, Any, Option, Some, None, nat_eq, if◌then◌else◌}
use Rattle.sail_syntax.specs.Tree.{Text, Tree, node, Form, unit, lit, truth, name, chain, flip, slice, update, call, widen, choose, when, cases, foreach, check, exit, assign, block, Trees, none, some, arm, Cases, no_case, case, Step, binds, holds, does, Steps, done, next}
use Rattle.sail_syntax.specs.Program.{Definition, order, register, enumeration, signature, function}
use Rattle.sail_syntax.specs.declared.tree.Infix.{Infix}
use Rattle.sail_syntax.specs.declared.types.Param.{Param}
use Rattle.state_core.specs.World.{World, Got, reached}
use Rattle.state_core.specs.Memory.{logged, load, store}
use Rattle.state_core.specs.declared.kinds.AccessKind.TheVariants as access
use Rattle.state_core.specs.declared.kinds.Range.{Range}
use Rattle.bv_bits.specs.declared.Bits.{Bits}
use Rattle.sail_values.specs.declared.value.Slot.{Slot}
use Rattle.sail_values.specs.declared.value.Local.{Local}
use Rattle.sail_values.specs.declared.value.Local.TheVariants as local
use Rattle.sail_values.specs.declared.value.Value.{Value}
use Rattle.sail_values.specs.declared.value.Value.TheVariants as value
use Rattle.sail_values.specs.Slots.{look, has}
use Rattle.sail_values.specs.Values.{nth, is_true, applied, decides}
use Rattle.sail_names.specs.declared.things.Named.{Named}
use Rattle.sail_names.specs.declared.things.Given.{Given}
use Rattle.sail_names.specs.declared.things.Given.TheVariants as given
use Rattle.sail_names.specs.declared.things.Thing.{Thing}
use Rattle.sail_names.specs.declared.things.Thing.TheVariants as thing
use Rattle.sail_names.specs.Things.{find_thing, things_of}
use Rattle.eval_rules.specs.Flow.{Out, gives, stops, Meaning}
use Rattle.eval_rules.specs.Parts.{fits}
use Rattle.eval_rules.specs.Prelude.{is_address, is_of_bytes}
use Rattle.eval_rules.specs.Names.{Setting, assigned, in_state}
use Rattle.eval_rules.specs.Eval.{Calls, eval, eval_step, enter, turn, calls_of, bound, setting_of}

-- what is done at a moment
pub data Did : Type 0 where
  -- the register of this number is read
  reads : (r : ℕ) → Did
  -- it is written
  writes : (r : ℕ) → Did
  -- memory or a device is accessed
  accesses : Did
  -- one part of an expression is done, and the next one begins
  passes : Did

-- what is done, and the world behind it
pub record Moment : Type 0 where
  pub did : Did
  pub world : World

-- the moments of an evaluation from locals and a world
abbrev pub Passing : Type 0
Passing = List Slot → World → List Moment

-- none
abbrev pub still : Passing
still locals world = []

-- one moment
abbrev pub at_moment : Did → World → List Moment
at_moment d world = record { did = d; world = world } ∷ []

-- the moments of what comes after an outcome
abbrev pub following : {X : Type 0} → Out X → (X → Passing) → List Moment
following (gives x locals world) f = record { did = passes; world = world } ∷ f x locals world
following (stops why world) f = []

-- ---- names

-- a read of what a name stands for
abbrev pub thing_read : Option Thing → World → List Moment
thing_read (Some (thing.Register r)) world = at_moment (reads r) world
thing_read (Some (thing.Member e i)) world = []
thing_read (Some (thing.Given g)) world = []
thing_read (Some (thing.Function i)) world = []
thing_read None world = []

-- a read of a name: a local is no register
abbrev pub name_read : List Named → Option Local → Text → World → List Moment
name_read things (Some v) x world = []
name_read things None x world = thing_read (find_thing x things) world

-- a write to what a name stands for
abbrev pub thing_written : Option Thing → Value → World → List Moment
thing_written (Some (thing.Register r)) v world = at_moment (writes r) (in_state (assigned (Some (thing.Register r)) v world.state) world)
thing_written (Some (thing.Member e i)) v world = []
thing_written (Some (thing.Given g)) v world = []
thing_written (Some (thing.Function i)) v world = []
thing_written None v world = []

-- an assignment: to a local, or to a register
abbrev pub name_written : List Named → Text → Value → Passing
name_written things x v = λ locals world. if has x locals then [] else thing_written (find_thing x things) v world

-- ---- memory

-- an access: it is noted, and then done
abbrev pub access_moments : {X : Type 0} → World → Got X → List Moment
access_moments noted got = record { did = accesses; world = noted } ∷ record { did = accesses; world = reached got } ∷ []

-- a read of so many bytes
abbrev pub read_moments : List Range → ℕ → Value → World → List Moment
read_moments ranges n (value.Bits a) world =
    if nat_le n 16 && is_address a then access_moments (logged access.Read a.value n world) (load ranges a.value n world) else []
read_moments ranges n value.Unit world = []
read_moments ranges n (value.Truth b) world = []
read_moments ranges n (value.Member e i) world = []

-- a write of what so many bytes hold
abbrev pub vector_moments : List Range → ℕ → Bits → Value → World → List Moment
vector_moments ranges n a (value.Bits v) world =
    if nat_le n 16 && is_address a && is_of_bytes n v then access_moments (logged access.Write a.value n world) (store ranges a.value n v.value world) else []
vector_moments ranges n a value.Unit world = []
vector_moments ranges n a (value.Truth b) world = []
vector_moments ranges n a (value.Member e i) world = []

-- a write of so many bytes
abbrev pub write_moments : List Range → ℕ → Value → Value → World → List Moment
write_moments ranges n (value.Bits a) v world = vector_moments ranges n a v world
write_moments ranges n value.Unit v world = []
write_moments ranges n (value.Truth b) v world = []
write_moments ranges n (value.Member e i) v world = []

-- a call of a function of the prelude
abbrev pub given_moments : List Range → Given → Value → Value → World → List Moment
given_moments ranges (given.Read n) a b world = read_moments ranges n a world
given_moments ranges (given.Write n) a b world = write_moments ranges n a b world
given_moments ranges given.Not a b world = []
given_moments ranges given.LtU a b world = []
given_moments ranges given.LtS a b world = []
given_moments ranges given.ShiftLeft a b world = []
given_moments ranges given.ShiftRight a b world = []
given_moments ranges given.ShiftRightArith a b world = []
given_moments ranges given.DivU a b world = []
given_moments ranges given.RemU a b world = []
given_moments ranges given.DivS a b world = []
given_moments ranges given.RemS a b world = []

-- ---- calls and repetition

-- the moments of calls of the functions of the text, each by the number of its definition
abbrev pub CallMoments : Type 0
CallMoments = ℕ → List Value → Passing

-- a call of what a name stands for
abbrev pub called_moments : Setting → CallMoments → Option Thing → List Value → Passing
called_moments here calls (Some (thing.Function i)) vs = calls i vs
called_moments here calls (Some (thing.Given g)) vs = λ locals world. given_moments here.ranges g (nth 0 vs) (nth 1 vs) world
called_moments here calls (Some (thing.Register r)) vs = still
called_moments here calls (Some (thing.Member e i)) vs = still
called_moments here calls None vs = still

-- n turns from i on
abbrev pub turns_moments : ℕ → ℕ → (ℕ → Meaning Value) → (ℕ → Passing) → Passing
turns_moments zero i body passing locals world = []
turns_moments (suc n) i body passing locals world =
    passing i locals world ++ following (body i locals world) (λ _. turns_moments n (i + 1) body passing)

-- ---- expressions

module _ (here : Setting) (calls : Calls) (calls_moments : CallMoments) where
  abbrev mutual
    -- an expression
    pub moments : Tree → Passing
    moments (node at form) = form_moments form

    -- what an expression is
    pub form_moments : Form → Passing
    form_moments unit = still
    form_moments (lit b) = still
    form_moments (truth b) = still
    form_moments (name x) = λ locals world. name_read here.things (look x locals) x world
    form_moments (chain op parts) = chain_moments parts op
    form_moments (flip of) = moments of
    form_moments (slice of hi lo) = moments of
    form_moments (update of hi lo by) = λ locals world.
        moments of locals world ++ following (eval here calls of locals world) (λ _. moments by)
    form_moments (call f args) = args_moments args [] (called_moments here calls_moments (find_thing f here.things))
    form_moments (widen signed to of) = moments of
    form_moments (choose test one other) = λ locals world.
        moments test locals world ++ following (eval here calls test locals world) (λ v. if is_true v then moments one else moments other)
    form_moments (when test one) = λ locals world.
        moments test locals world ++ following (eval here calls test locals world) (λ v. if is_true v then moments one else still)
    form_moments (cases on arms) = λ locals world.
        moments on locals world ++ following (eval here calls on locals world) (λ v. arms_moments arms v)
    form_moments (foreach x from to body) =
        turns_moments (to + 1 - from) from (turn here calls x body) (λ i locals world. moments body (record { name = x; local = local.Counts i } ∷ locals) world)
    form_moments (check test text) = moments test
    form_moments exit = still
    form_moments (assign x by) = λ locals world.
        moments by locals world ++ following (eval here calls by locals world) (λ v. name_written here.things x v)
    form_moments (block steps) = steps_moments steps

    -- a chain
    pub chain_moments : Trees → Infix → Passing
    chain_moments none op = still
    chain_moments (some t rest) op = λ locals world.
        moments t locals world ++ following (eval here calls t locals world) (λ v. rest_moments rest op v)

    -- the rest of a chain, after the value so far
    pub rest_moments : Trees → Infix → Value → Passing
    rest_moments none op v = still
    rest_moments (some t rest) op v = if decides op v then still else (λ locals world.
        moments t locals world ++ following (eval here calls t locals world) (λ u. rest_moments rest op (applied op v u)))

    -- arguments, after the values so far, and then the call
    pub args_moments : Trees → List Value → (List Value → Passing) → Passing
    args_moments none vs f = f vs
    args_moments (some t rest) vs f = λ locals world.
        moments t locals world ++ following (eval here calls t locals world) (λ v. args_moments rest (vs ++ v ∷ []) f)

    -- the first arm that fits
    pub arms_moments : Cases → Value → Passing
    arms_moments no_case v = still
    arms_moments (case (arm p body) rest) v =
        if fits here.things p v then (λ locals world. following (enter here p v locals world) (λ _. moments body)) else arms_moments rest v

    -- a statement
    pub step_moments : Step → Passing
    step_moments (binds x ty by) = moments by
    step_moments (holds x ty by) = moments by
    step_moments (does e) = moments e

    -- statements
    pub steps_moments : Steps → Passing
    steps_moments done = still
    steps_moments (next s rest) = λ locals world.
        step_moments s locals world ++ following (eval_step here calls s locals world) (λ _. steps_moments rest)

-- a call of a function of a text by the number of its definition, as the call goes
abbrev pub moments_of_calls : Setting → List Definition → CallMoments
moments_of_calls here [] i vs = still
moments_of_calls here (order ∷ earlier) i vs = moments_of_calls here earlier i vs
moments_of_calls here (register x width at ∷ earlier) i vs = moments_of_calls here earlier i vs
moments_of_calls here (enumeration x members at ∷ earlier) i vs = moments_of_calls here earlier i vs
moments_of_calls here (signature x args result at ∷ earlier) i vs = moments_of_calls here earlier i vs
moments_of_calls here (function d ∷ earlier) i vs =
    if nat_eq i (length earlier)
    then (λ locals world. moments here (calls_of here earlier) (moments_of_calls here earlier) d.body (bound d.params vs 0 []) world)
    else moments_of_calls here earlier i vs

-- the moments of a call of a name of a text, without locals
abbrev pub moments_of : List Definition → List Range → Text → List Value → World → List Moment
moments_of defs ranges f vs world =
    called_moments (setting_of defs ranges) (moments_of_calls (setting_of defs ranges) (reverse defs)) (find_thing f (things_of defs)) vs [] world

-- ---- what they tell

-- one use of a register, by its number
pub data Use : Type 0 where
  use_reads : (r : ℕ) → Use
  use_writes : (r : ℕ) → Use

-- the use of a register at a moment, before those of others
abbrev pub used_at : Did → List Use → List Use
used_at (reads r) rest = use_reads r ∷ rest
used_at (writes r) rest = use_writes r ∷ rest
used_at accesses rest = rest
used_at passes rest = rest

-- the registers that are read and written, in order
abbrev pub uses_in : List Moment → List Use
uses_in [] = []
uses_in (m ∷ ms) = used_at m.did (uses_in ms)

-- a world is that of the beginning, or of a moment
abbrev pub IsPassed : World → World → List Moment → Type 0
IsPassed world start ms = (world ≡ start) ⊎ Any (λ m. m.world ≡ world) ms
