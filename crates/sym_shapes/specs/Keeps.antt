-- What follows a trace that keeps the rules leaves a state of the program, as the state in front of it was.
use Rattle.std.specs.Prelude.{⊤, ℕ, List, []}
use Rattle.bv_bits.specs.declared.Bits.{Bits}
use Rattle.bv_bits.specs.Bits.{IsBits}
use Rattle.sail_syntax.specs.Tree.{Text}
use Rattle.sail_syntax.specs.Program.{Definition, registers_of}
use Rattle.state_core.specs.World.{World}
use Rattle.state_core.specs.declared.kinds.Range.{Range}
use Rattle.term_tree.specs.Terms.{IsTyped}
use Rattle.term_tree.specs.Values.{IsValues, values_of}
use Rattle.type_rules.specs.IsTyped.{IsTypedProgram}
use Rattle.eval_types.specs.Types.{StateFits}
use Rattle.trace_plain.specs.Trace.{Event, Trace}
use Rattle.trace_plain.specs.Terms.{OfEvent, OfTrace}
use Rattle.trace_plain.specs.Rules.{KeepsRules, TraceKeepsRules}
use Rattle.trace_plain.specs.Following.{Path, path_from, Outcome, Step, goes, halts, blocked, act, Follows}
use Rattle.sym_rules.specs.Sym.{trace_of}
use Rattle.sym_shapes.specs.Shapes.{AreAssumptions}

-- a path on which variables have values, and whose state is one of the program
pub record PathFits (defs : List Definition) (p : Path) : Type 0 where
  pub variables : IsValues (values_of (record { bits = p.vars; arrays = [] }))
  pub state : StateFits defs p.world.state

-- an event comes to such a path, or to an end with such a state
abbrev pub StepFits : List Definition → Step → Type 0
StepFits defs (goes p) = PathFits defs p
StepFits defs (halts out) = StateFits defs out.world.state
StepFits defs blocked = ⊤

-- ---- laws

-- an event that keeps the rules, of typed terms
abbrev pub EventsKeepStates : Type 0
EventsKeepStates = (defs : List Definition) (ranges : List Range) (bound : List ℕ) (e : Event) (p : Path)
    → KeepsRules (registers_of defs) bound e → OfEvent IsTyped e → PathFits defs p → StepFits defs (act ranges e p)

-- a trace that keeps them
abbrev pub OutcomesKeepStates : Type 0
OutcomesKeepStates = (defs : List Definition) (ranges : List Range) (bound : List ℕ) (t : Trace) (p : Path) (out : Outcome)
    → TraceKeepsRules (registers_of defs) t bound → OfTrace IsTyped t → PathFits defs p → Follows ranges t p out → StateFits defs out.world.state

-- the trace of a word
abbrev pub TracesKeepStates : Type 0
TracesKeepStates = (defs : List Definition) (given : List (ℕ × Bits)) (ranges : List Range) (f : Text) (b : Bits) (w : World) (out : Outcome)
    → IsTypedProgram defs → AreAssumptions (registers_of defs) given → IsBits b → StateFits defs w.state
    → Follows ranges (trace_of defs given f b) (path_from [] w) out → StateFits defs out.world.state
