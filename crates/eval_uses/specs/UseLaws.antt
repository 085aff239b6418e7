-- Laws of evaluations with their moments: of expressions, of calls of functions, and of calls of names of a text.
use Rattle.std.specs.Prelude.{◌≡◌, ℕ, false, List}
use Rattle.sail_syntax.specs.Tree.{Text, Tree}
use Rattle.sail_syntax.specs.Program.{Definition}
use Rattle.state_core.specs.World.{World}
use Rattle.state_core.specs.declared.kinds.Range.{Range}
use Rattle.sail_values.specs.declared.value.Slot.{Slot}
use Rattle.sail_values.specs.declared.value.Value.{Value}
use Rattle.eval_rules.specs.Flow.{Out}
use Rattle.eval_rules.specs.Names.{Setting}
use Rattle.eval_rules.specs.Eval.{eval, calls_of, call_of}
use Rattle.eval_rules.specs.Moments.{Moment, IsPassed, moments, moments_of_calls, moments_of, uses_in}
use Rattle.eval_uses.specs.Uses.{has_access, dids, world_in, MomentsKeep, Alike, OutcomesAlike, with_rest_of}

-- what is said of an evaluation from a world, and of its moments from there
abbrev pub Law : Type 1
Law = (World → Out Value) → (World → List Moment) → Type 0

-- it is so of each
pub record OfEach (law : Law) : Type 0 where
  -- an expression, among the functions of a text
  pub expressions : (here : Setting) (ds : List Definition) (t : Tree) (locals : List Slot)
      → law (eval here (calls_of here ds) t locals) (moments here (calls_of here ds) (moments_of_calls here ds) t locals)
  -- a call of a function by the number of its definition
  pub calls : (here : Setting) (ds : List Definition) (i : ℕ) (vs : List Value) (locals : List Slot)
      → law (calls_of here ds i vs locals) (moments_of_calls here ds i vs locals)
  -- a call of a name of a text
  pub names : (defs : List Definition) (ranges : List Range) (f : Text) (at : ℕ) (vs : List Value)
      → law (call_of defs ranges f at vs) (moments_of defs ranges f vs)

-- ---- laws

-- what the moments don't tell stays as it is
abbrev pub LeavesOthers : Law
LeavesOthers run ms = (w : World) → MomentsKeep (ms w) w (world_in (run w))

-- from worlds that are alike for the moments from the one, it ends alike
abbrev pub EndsAlike : Law
EndsAlike run ms = (w v : World) → Alike (ms w) w v → OutcomesAlike (ms w) w v (run w) (run v)

-- and the moments from the other do the same
abbrev pub DoesAlike : Law
DoesAlike run ms = (w v : World) → Alike (ms w) w v → dids (ms v) ≡ dids (ms w)

-- two evaluations without an access: the end, the uses of registers, no access from the other world either
pub record Quiet (ms ns : List Moment) (v : World) (one two : Out Value) : Type 0 where
  pub ends : two ≡ with_rest_of v one
  pub uses : uses_in ns ≡ uses_in ms
  pub accesses : has_access ns ≡ false

-- without an access it depends on the registers alone, and leaves the rest of the world
abbrev pub IsQuiet : Law
IsQuiet run ms = (w v : World) → has_access (ms w) ≡ false → v.state.registers ≡ w.state.registers → Quiet (ms w) (ms v) v (run w) (run v)

-- the world that is reached is that of the beginning or of a moment
abbrev pub ReachesPassed : Law
ReachesPassed run ms = (w : World) → IsPassed (world_in (run w)) w (ms w)
