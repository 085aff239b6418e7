-- When a value is of a type, and when locals and a state fit what typing says of them.
use Rattle.std.specs.Prelude.{◌≡◌, ◌≤◌, ◌<◌, ℕ, List, [], ◌∷◌, map, length, Option, Some, None, ⊤, slice_get}
use Rattle.bv_bits.specs.Bits.{IsBits}
use Rattle.lex_core.specs.declared.name.RegDecl.{RegDecl}
use Rattle.sail_syntax.specs.Tree.{Text}
use Rattle.sail_syntax.specs.Program.{Definition, order, register, enumeration, signature, function, registers_of}
use Rattle.sail_syntax.specs.declared.types.Ty.{Ty}
use Rattle.sail_syntax.specs.declared.types.Ty.TheVariants as ty
use Rattle.sail_syntax.specs.declared.types.Param.{Param}
use Rattle.state_core.specs.State.{State, IsState, widths_of}
use Rattle.sail_values.specs.declared.value.Value.{Value}
use Rattle.sail_values.specs.declared.value.Value.TheVariants as value
use Rattle.sail_values.specs.declared.value.Slot.{Slot}
use Rattle.sail_values.specs.declared.value.Local.{Local}
use Rattle.sail_values.specs.declared.value.Local.TheVariants as local
use Rattle.type_rules.specs.declared.scope.Sort.{Sort}
use Rattle.type_rules.specs.declared.scope.Sort.TheVariants.{Holds, Counts}
use Rattle.type_rules.specs.declared.scope.Local.{Local as Typed}

-- an enum's name and its members
pub record Enum : Type 0 where
  pub name : Text
  pub members : List Text

-- the enums of a program, in order
abbrev pub enums_of : List Definition → List Enum
enums_of [] = []
enums_of (order ∷ ds) = enums_of ds
enums_of (register x width at ∷ ds) = enums_of ds
enums_of (enumeration x members at ∷ ds) = record { name = x; members = members } ∷ enums_of ds
enums_of (signature x args result at ∷ ds) = enums_of ds
enums_of (function f ∷ ds) = enums_of ds

-- the enum is there, its name is the type's, and it has more members than that
abbrev pub IsMemberOf : Option Enum → ℕ → Ty → Type 0
IsMemberOf (Some e) index t = (t ≡ ty.Enum e.name) × (index < length e.members)
IsMemberOf None index t = ⊥

-- a value of the type
abbrev pub IsOfType : List Definition → Value → Ty → Type 0
IsOfType defs value.Unit t = t ≡ ty.Unit
IsOfType defs (value.Truth b) t = t ≡ ty.Bool
IsOfType defs (value.Bits b) t = IsBits b × (t ≡ ty.Bits b.width)
IsOfType defs (value.Member of index) t = IsMemberOf (slice_get (enums_of defs) of) index t

-- values of the parameters' types, one for each
abbrev pub AreOfTypes : List Definition → List Value → List Param → Type 0
AreOfTypes defs [] [] = ⊤
AreOfTypes defs [] (p ∷ ps) = ⊥
AreOfTypes defs (v ∷ vs) [] = ⊥
AreOfTypes defs (v ∷ vs) (p ∷ ps) = IsOfType defs v p.ty × AreOfTypes defs vs ps

-- a local has a value of its type, or a number from the first to the last one of its foreach
abbrev pub SortFits : List Definition → Local → Sort → Type 0
SortFits defs (local.Is v) (Holds (Some t) assigned) = IsOfType defs v t
SortFits defs (local.Is v) (Holds None assigned) = ⊥
SortFits defs (local.Is v) (Counts from to) = ⊥
SortFits defs (local.Counts n) (Holds t assigned) = ⊥
SortFits defs (local.Counts n) (Counts from to) = (from ≤ n) × (n ≤ to)

-- one local for each of the scope, of the same name, in the same order
abbrev pub LocalsFit : List Definition → List Slot → List Typed → Type 0
LocalsFit defs [] [] = ⊤
LocalsFit defs [] (d ∷ scope) = ⊥
LocalsFit defs (s ∷ locals) [] = ⊥
LocalsFit defs (s ∷ locals) (d ∷ scope) = (s.name ≡ d.name) × SortFits defs s.local d.sort × LocalsFit defs locals scope

-- the width alone
abbrev pub declared_width : RegDecl → ℕ
declared_width r = r.width

-- a state of values alone, with the registers of the program
pub record StateFits (defs : List Definition) (s : State) : Type 0 where
  pub values : IsState s
  pub widths : widths_of s ≡ map declared_width (registers_of defs)
