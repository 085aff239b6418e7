-- The law of the limit: a trace is answered exactly where it has no more events and ends than it may.
use Rattle.std.specs.Prelude.{◌≡◌, ◌≤◌, ◌<◌, ◌↔◌, List, ℕ}
use Rattle.bv_bits.specs.declared.Bits.{Bits}
use Rattle.sail_syntax.specs.Tree.{Text}
use Rattle.sail_syntax.specs.Program.{Definition}
use Rattle.term_arena.specs.Said.{Answers, Refuses}
use Rattle.trace_plain.specs.Trace.{Trace, size}
use Rattle.sym_rules.specs.Trees.{too_large}
use Rattle.sym_rules.specs.Sym.{trace_of, traced_call}
use Rattle.sym_rules.specs.declared.limits.TheConstants.{EVENT_LIMIT}

-- what is answered is the trace
abbrev pub AnswersTheTrace : Type 0
AnswersTheTrace = (defs : List Definition) (given : List (ℕ × Bits)) (f : Text) (b : Bits) →
    size (trace_of defs given f b) ≤ EVENT_LIMIT → (traced_call defs given f b).answer ≡ Answers (trace_of defs given f b)

-- a trace that has one event or end more is refused
abbrev pub RefusesTheRest : Type 0
RefusesTheRest = (defs : List Definition) (given : List (ℕ × Bits)) (f : Text) (b : Bits) →
    EVENT_LIMIT < size (trace_of defs given f b) → (traced_call defs given f b).answer ≡ Refuses too_large
