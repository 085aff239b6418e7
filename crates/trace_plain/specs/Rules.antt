-- The rules of a trace's registers, variables, widths, byte counts and children.
use Rattle.std.specs.Prelude.{◌≡◌, ⊤, ℕ, ◌*◌, List, [], ◌∷◌, ◌++◌, length, Contains, Option, Some, None, slice_get, codes}
use Rattle.std.specs.Fmt.{decimal}
use Rattle.std.specs.Option.{option_map}
use Rattle.bv_bits.specs.Bits.{IsBits}
use Rattle.lex_core.specs.declared.name.RegDecl.{RegDecl}
use Rattle.term_tree.specs.Terms.{Text, Tree, width_of}
use Rattle.term_tree.specs.Variables.{HasVariables}
use Rattle.trace_plain.specs.Trace.{Event, read_reg, write_reg, read_mem, write_mem, assume, need, assume_reg, Trace, trace, End, done, fail, cases, Traces, none, some}

-- the name of a variable of a path: `v` and its number
abbrev pub var_name : ℕ → Text
var_name n = codes "v" ++ decimal n

-- how many bytes an access may have
abbrev pub IsByteCount : ℕ → Type 0
IsByteCount n = Contains (1 ∷ 2 ∷ 4 ∷ 8 ∷ 16 ∷ []) n

-- the width of a register, where there is such a register
abbrev pub register_width : List RegDecl → ℕ → Option ℕ
register_width registers r = option_map (λ (d : RegDecl). d.width) (slice_get registers r)

-- a name and a width are those of a variable, where the variables bound so far have these widths, that of number 0 first
pub record IsBound (bound : List ℕ) (x : Text) (w : ℕ) : Type 0 where
  pub number : ℕ
  pub name : x ≡ var_name number
  pub width : slice_get bound number ≡ Some w

-- a term of this width over bound variables and no array
pub record Fits (bound : List ℕ) (w : ℕ) (t : Tree) : Type 0 where
  pub width : width_of t ≡ w
  pub variables : HasVariables (IsBound bound) (λ f. ⊥) t

-- a register of a width, and a term as wide over bound variables
pub record FitsRegister (registers : List RegDecl) (bound : List ℕ) (r : ℕ) (t : Tree) : Type 0 where
  pub width : ℕ
  pub register : register_width registers r ≡ Some width
  pub term : Fits bound width t

-- a register's value becomes that of the next variable, which is as wide
pub record Binds (registers : List RegDecl) (bound : List ℕ) (r var : ℕ) : Type 0 where
  pub width : ℕ
  pub register : register_width registers r ≡ Some width
  pub next : var ≡ length bound

-- the variables that are bound behind an event
abbrev pub bound_behind : List RegDecl → List ℕ → Event → List ℕ
bound_behind registers bound (read_reg r var) = bound ++ width_or_none (register_width registers r)
  where
    width_or_none : Option ℕ → List ℕ
    width_or_none None = []
    width_or_none (Some w) = w ∷ []
bound_behind registers bound (read_mem var at n) = bound ++ 8 * n ∷ []
bound_behind registers bound event = bound

-- an event where these variables are bound
abbrev pub KeepsRules : List RegDecl → List ℕ → Event → Type 0
KeepsRules registers bound (read_reg r var) = Binds registers bound r var
KeepsRules registers bound (write_reg r t) = FitsRegister registers bound r t
KeepsRules registers bound (read_mem var at n) = (var ≡ length bound) × Fits bound 64 at × IsByteCount n
KeepsRules registers bound (write_mem at t n) = Fits bound 64 at × Fits bound (8 * n) t × IsByteCount n
KeepsRules registers bound (assume t) = Fits bound 1 t
KeepsRules registers bound (need t) = Fits bound 1 t
KeepsRules registers bound (assume_reg r value) = (register_width registers r ≡ Some value.width) × IsBits value

-- events in a row, and what comes after them
abbrev pub KeepRules : List RegDecl → (List ℕ → Type 0) → List ℕ → List Event → Type 0
KeepRules registers rest bound [] = rest bound
KeepRules registers rest bound (e ∷ es) = KeepsRules registers bound e × KeepRules registers rest (bound_behind registers bound e) es

-- a trace, an end and children where these variables are bound; `cases` has at least one child
abbrev mutual
  pub TraceKeepsRules : List RegDecl → Trace → List ℕ → Type 0
  TraceKeepsRules registers (trace events end) bound = KeepRules registers (EndKeepsRules registers end) bound events

  pub EndKeepsRules : List RegDecl → End → List ℕ → Type 0
  EndKeepsRules registers done bound = ⊤
  EndKeepsRules registers (fail kind) bound = ⊤
  EndKeepsRules registers (cases none) bound = ⊥
  EndKeepsRules registers (cases (some t ts)) bound = TraceKeepsRules registers t bound × ChildrenKeepRules registers ts bound

  pub ChildrenKeepRules : List RegDecl → Traces → List ℕ → Type 0
  ChildrenKeepRules registers none bound = ⊤
  ChildrenKeepRules registers (some t ts) bound = TraceKeepsRules registers t bound × ChildrenKeepRules registers ts bound

-- a whole trace, in front of which no variable is bound
abbrev pub IsByTheRules : List RegDecl → Trace → Type 0
IsByTheRules registers t = TraceKeepsRules registers t []
