-- Evaluation follows the trace: from a state that meets the assumptions just one outcome follows the trace of an opcode, and it says what evaluation comes to.
use Rattle.std.specs.Prelude.{◌≡◌, ◌≤◌, ◌^◌, ⊤, ℕ, List, [], ◌∷◌, Some}
use Rattle.bv_bits.specs.declared.Bits.{Bits}
use Rattle.bv_bits.specs.Bits.{IsBits}
use Rattle.sail_syntax.specs.Tree.{Text}
use Rattle.sail_syntax.specs.Program.{Definition}
use Rattle.state_core.specs.declared.kinds.FaultKind.{FaultKind}
use Rattle.state_core.specs.declared.kinds.FaultKind.TheVariants as kind
use Rattle.state_core.specs.declared.kinds.Range.{Range}
use Rattle.state_core.specs.State.{register_of}
use Rattle.state_core.specs.World.{World, Halt, fault, lacks_answer}
use Rattle.state_core.specs.Laws.{Grows}
use Rattle.sail_values.specs.declared.value.Value.{Value}
use Rattle.sail_values.specs.declared.value.Value.TheVariants as value
use Rattle.type_rules.specs.IsTyped.{IsTypedProgram}
use Rattle.eval_rules.specs.Flow.{Out, gives, stops}
use Rattle.eval_rules.specs.Eval.{call_of}
use Rattle.eval_types.specs.Types.{StateFits}
use Rattle.eval_uses.specs.Uses.{world_in}
use Rattle.trace_plain.specs.declared.trace.FailKind.TheVariants as failure
use Rattle.trace_plain.specs.Trace.{Trace, size}
use Rattle.trace_plain.specs.Following.{Path, path_from, Ending, whole, failed, faulted, unanswered, Outcome, Follows, outcomes}
use Rattle.sym_rules.specs.Values.{entry_of}
use Rattle.sym_rules.specs.Sym.{trace_of}

-- a world that a trace speaks of: its state is one of the program, and each register of which a value is assumed has it
pub record Meets (defs : List Definition) (given : List (ℕ × Bits)) (w : World) : Type 0 where
  pub state : StateFits defs w.state
  pub assumed : (r : ℕ) (b : Bits) → entry_of r given ≡ Some b → register_of w.state r ≡ b

-- a trace with so few events that each variable of a path has a name of its own
abbrev pub IsNamed : Trace → Type 0
IsNamed t = size t ≤ 2 ^ 64

-- ---- what an outcome says

-- the evaluation gives something, in this world
abbrev pub GivesIn : World → Out Value → Type 0
GivesIn w (gives v locals world) = world ≡ w
GivesIn w (stops why world) = ⊥

-- it ends early in this world, for such a reason
abbrev pub StopsIn : World → (Halt → Type 0) → Out Value → Type 0
StopsIn w Reason (gives v locals world) = ⊥
StopsIn w Reason (stops why world) = Reason why × (world ≡ w)

-- by a fault of the kind, at whatever place of the text
abbrev pub IsFault : FaultKind → Halt → Type 0
IsFault k (fault kind at) = kind ≡ k
IsFault k lacks_answer = ⊥

-- for want of an answer
abbrev pub LacksAnswer : Halt → Type 0
LacksAnswer (fault kind at) = ⊥
LacksAnswer lacks_answer = ⊤

-- what an ending in a world says of the evaluation: where the trace goes no further, that what was done so far is the beginning of what evaluation does
abbrev pub Says : Ending → World → Out Value → Type 0
Says whole w r = GivesIn w r
Says (failed failure.Match) w r = StopsIn w (IsFault kind.MatchFail) r
Says (failed failure.Assert) w r = StopsIn w (IsFault kind.AssertFail) r
Says (failed failure.Exit) w r = StopsIn w (IsFault kind.Exit) r
Says (failed failure.Unsupported) w r = Grows w (world_in r)
Says (failed failure.AssumedWritten) w r = Grows w (world_in r)
Says (faulted k) w r = StopsIn w (IsFault k) r
Says unanswered w r = StopsIn w LacksAnswer r

-- just one outcome follows a trace, and it says what an evaluation comes to
pub record FollowsAlone (ranges : List Range) (t : Trace) (p : Path) (r : Out Value) : Type 0 where
  pub outcome : Outcome
  pub follows : Follows ranges t p outcome
  pub alone : (other : Outcome) → Follows ranges t p other → other ≡ outcome
  -- it stands in the list of outcomes once
  pub once : outcomes ranges t p ≡ outcome ∷ []
  pub says : Says outcome.ending outcome.world r

-- ---- the law

-- from a state of a typed program that meets the assumptions, just one outcome follows the trace of a word, and it says what a call at the word comes to
abbrev pub EvaluationFollows : Type 0
EvaluationFollows = (defs : List Definition) (given : List (ℕ × Bits)) (ranges : List Range) (f : Text) (at : ℕ) (b : Bits) (w : World)
    → IsTypedProgram defs → IsBits b → Meets defs given w → IsNamed (trace_of defs given f b)
    → FollowsAlone ranges (trace_of defs given f b) (path_from [] w) (call_of defs ranges f at (value.Bits b ∷ []) w)
