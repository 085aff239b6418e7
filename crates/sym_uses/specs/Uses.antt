-- Evaluation follows the trace, registers included: those that the evaluation uses are those that the outcome has seen, where the trace goes as far as the evaluation.
use Rattle.std.specs.Prelude.{◌≡◌, ◌⊎◌, ⊤, ℕ, List, [], ◌∷◌, Some, Contains, slice_get, codes}
use Rattle.bv_bits.specs.Bits.{IsBits}
use Rattle.bv_bits.specs.declared.Bits.{Bits}
use Rattle.sail_syntax.specs.Tree.{Text}
use Rattle.sail_syntax.specs.Program.{Definition, Function, function, function_of}
use Rattle.state_core.specs.declared.kinds.Range.{Range}
use Rattle.state_core.specs.World.{World}
use Rattle.sail_values.specs.declared.value.Value.{Value}
use Rattle.sail_values.specs.declared.value.Value.TheVariants as value
use Rattle.type_rules.specs.IsTyped.{IsTypedProgram}
use Rattle.eval_rules.specs.Eval.{call_of}
use Rattle.eval_rules.specs.Flow.{Out}
use Rattle.eval_rules.specs.Moments.{Use, use_reads, use_writes, uses_in, moments_of}
use Rattle.eval_types.specs.Types.{AreOfTypes}
use Rattle.trace_plain.specs.Trace.{Trace}
use Rattle.trace_plain.specs.declared.trace.FailKind.TheVariants as failure
use Rattle.trace_plain.specs.Following.{Seen, Path, path_from, Ending, whole, failed, faulted, unanswered}
use Rattle.sym_rules.specs.Sym.{trace_of}
use Rattle.sym_follows.specs.Follows.{Meets, IsNamed, FollowsAlone}

-- ---- what an outcome has seen

-- a register that is read, assumed or written
abbrev pub Knows : Seen → ℕ → Type 0
Knows s r = Contains s.read r ⊎ (Contains s.assumed r ⊎ Contains s.written r)

-- a register that is read is one of these, and one that is written is written
abbrev pub IsSeen : Seen → Use → Type 0
IsSeen s (use_reads r) = Knows s r
IsSeen s (use_writes r) = Contains s.written r

-- so are all
abbrev pub AreSeen : Seen → List Use → Type 0
AreSeen s [] = ⊤
AreSeen s (u ∷ us) = IsSeen s u × AreSeen s us

-- so they are where the trace goes as far as the evaluation
abbrev pub SeenTo : Ending → Seen → List Use → Type 0
SeenTo whole s us = AreSeen s us
SeenTo (failed failure.Match) s us = AreSeen s us
SeenTo (failed failure.Assert) s us = AreSeen s us
SeenTo (failed failure.Exit) s us = AreSeen s us
SeenTo (failed failure.Unsupported) s us = ⊤
SeenTo (failed failure.AssumedWritten) s us = ⊤
SeenTo (faulted k) s us = AreSeen s us
SeenTo unanswered s us = AreSeen s us

-- ---- the theorem

-- just one outcome follows a trace; it says what an evaluation comes to, and has seen the registers that the evaluation uses
pub record FollowsSeeing (ranges : List Range) (t : Trace) (p : Path) (r : Out Value) (us : List Use) : Type 0 where
  pub alone : FollowsAlone ranges t p r
  pub sees : SeenTo alone.outcome.ending alone.outcome.seen us

-- of a call of a name at a word, from a world
abbrev pub CallFollows : List Definition → List (ℕ × Bits) → List Range → Text → ℕ → Bits → World → Type 0
CallFollows defs given ranges f at b w =
    FollowsSeeing ranges (trace_of defs given f b) (path_from [] w) (call_of defs ranges f at (value.Bits b ∷ []) w) (uses_in (moments_of defs ranges f (value.Bits b ∷ []) w))

-- a function of a typed program at a word of its parameter's type, from a state that meets the assumptions
abbrev pub FunctionsFollow : Type 0
FunctionsFollow = (defs : List Definition) (given : List (ℕ × Bits)) (ranges : List Range) (i : ℕ) (f : Function) (at : ℕ) (b : Bits) (w : World)
    → IsTypedProgram defs → slice_get defs i ≡ Some (function f) → AreOfTypes defs (value.Bits b ∷ []) f.params → Meets defs given w → IsNamed (trace_of defs given f.name b)
    → CallFollows defs given ranges f.name at b w

-- `instr` at a word of 32 bits
abbrev pub InstrFollows : Type 0
InstrFollows = (defs : List Definition) (given : List (ℕ × Bits)) (ranges : List Range) (at : ℕ) (b : Bits) (w : World)
    → IsTypedProgram defs → IsBits b → b.width ≡ 32 → Meets defs given w → IsNamed (trace_of defs given (codes "instr") b)
    → CallFollows defs given ranges (codes "instr") at b w

-- `instr16`, where the program has it, at a word of 16 bits
abbrev pub Instr16Follows : Type 0
Instr16Follows = (defs : List Definition) (given : List (ℕ × Bits)) (ranges : List Range) (f : Function) (at : ℕ) (b : Bits) (w : World)
    → IsTypedProgram defs → function_of defs (codes "instr16") ≡ Some f → IsBits b → b.width ≡ 16 → Meets defs given w → IsNamed (trace_of defs given (codes "instr16") b)
    → CallFollows defs given ranges (codes "instr16") at b w
