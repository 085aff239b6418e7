-- Traces that have a text, and the registers that they may name.
use Rattle.std.specs.Prelude.{◌≡◌, ◌≢◌, ◌≤◌, ◌<◌, ⊤, ℕ, true, List, [], ◌∷◌, All, AllPairs}
use Rattle.lex_core.specs.declared.name.RegDecl.{RegDecl}
use Rattle.lex_core.specs.declared.token.Kind.TheVariants as kind
use Rattle.lex_core.specs.Forms.{has_form}
use Rattle.term_tree.specs.Terms.{Tree, IsTerm}
use Rattle.term_tree.specs.Divisions.{HasNoDivision}
use Rattle.trace_plain.specs.Trace.{Event, read_reg, write_reg, read_mem, write_mem, assume, need, assume_reg, Trace, trace, End, done, fail, cases, Traces, none, some}

-- registers as a text declares them: their names are names to the lexer and differ, and widths are from 1 to 128
pub record AreRegisters (registers : List RegDecl) : Type 0 where
  pub names : All (λ r. has_form kind.Name r.name ≡ true) registers
  pub differ : AllPairs (λ r s. r.name ≢ s.name) registers
  pub positive : All (λ r. 1 ≤ r.width) registers
  pub at_most : All (λ r. r.width ≤ 128) registers

-- a term that has a text
pub record HasText (t : Tree) : Type 0 where
  pub term : IsTerm t
  pub no_division : HasNoDivision t

-- an event whose terms have texts, and whose register is one of so many
abbrev pub IsPrintableEvent : ℕ → Event → Type 0
IsPrintableEvent registers (read_reg r var) = r < registers
IsPrintableEvent registers (write_reg r t) = (r < registers) × HasText t
IsPrintableEvent registers (read_mem var at n) = HasText at
IsPrintableEvent registers (write_mem at t n) = HasText at × HasText t
IsPrintableEvent registers (assume t) = HasText t
IsPrintableEvent registers (need t) = HasText t
IsPrintableEvent registers (assume_reg r value) = r < registers

-- events that are such
abbrev pub ArePrintableEvents : ℕ → List Event → Type 0
ArePrintableEvents registers [] = ⊤
ArePrintableEvents registers (e ∷ es) = IsPrintableEvent registers e × ArePrintableEvents registers es

-- a trace, an end and traces in a row whose events are such
abbrev mutual
  pub IsPrintable : ℕ → Trace → Type 0
  IsPrintable registers (trace events end) = ArePrintableEvents registers events × IsPrintableEnd registers end

  pub IsPrintableEnd : ℕ → End → Type 0
  IsPrintableEnd registers done = ⊤
  IsPrintableEnd registers (fail kind) = ⊤
  IsPrintableEnd registers (cases ts) = ArePrintable registers ts

  pub ArePrintable : ℕ → Traces → Type 0
  ArePrintable registers none = ⊤
  ArePrintable registers (some t ts) = IsPrintable registers t × ArePrintable registers ts
