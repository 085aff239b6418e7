-- What the laws say.
use Rattle.std.specs.Prelude.{◌≡◌, ℕ, Bool, true, false, List, [], ◌∷◌, Option, Some, None, ⊤, ◌↔◌}
use Rattle.sail_syntax.specs.Tree.{Tree}
use Rattle.sail_syntax.specs.Program.{Definition}
use Rattle.sail_syntax.specs.declared.types.Ty.{Ty}
use Rattle.type_rules.specs.declared.fault.Fault.{Fault}
use Rattle.type_rules.specs.declared.scope.Entry.{Entry}
use Rattle.type_rules.specs.declared.scope.Item.{Item}
use Rattle.type_rules.specs.declared.scope.Item.TheVariants as item
use Rattle.type_rules.specs.declared.scope.Slot.{Slot}
use Rattle.type_rules.specs.declared.scope.Slot.TheVariants as slot
use Rattle.type_rules.specs.declared.scope.Sort.{Sort}
use Rattle.type_rules.specs.declared.scope.Sort.TheVariants.{Holds, Counts}
use Rattle.type_rules.specs.declared.scope.Local.{Local}
use Rattle.type_rules.specs.Faults.{Faults, Clean, IsSaid, first, sooner}
use Rattle.type_rules.specs.Rules.{Judged}
use Rattle.type_rules.specs.Judge.{judge}
use Rattle.type_rules.specs.HasType.{HasType, IsType}
use Rattle.type_rules.specs.Program.{type_fault}
use Rattle.type_rules.specs.IsTyped.{IsTypedProgram}

-- the first fault is one that is said, and no other comes before it; there is none where none is said
pub record FirstOf (fs : Faults) : Type 0 where
  pub clean : first fs ≡ None ↔ Clean fs
  pub said : (f : Fault) → first fs ≡ Some f → IsSaid f fs
  pub least : (f g : Fault) → first fs ≡ Some f → IsSaid g fs → sooner g f ≡ false

-- a local's type is known
abbrev pub KnownSort : Sort → Type 0
KnownSort (Holds (Some t) v) = ⊤
KnownSort (Holds None v) = ⊥
KnownSort (Counts a b) = ⊤

-- the types of all locals are known
abbrev pub Known : List Local → Type 0
Known [] = ⊤
Known (d ∷ rest) = KnownSort d.sort × Known rest

-- what a function asks of its arguments are types
abbrev pub AreSlots : List Entry → List Slot → Type 0
AreSlots globals [] = ⊤
AreSlots globals (slot.Is q ∷ ss) = IsType globals q × AreSlots globals ss
AreSlots globals (slot.AnyBits ∷ ss) = AreSlots globals ss
AreSlots globals (slot.Alike ∷ ss) = AreSlots globals ss

-- what it gives is one too, or the type of an argument that is there
abbrev pub IsResult : List Entry → List Slot → Option Ty → Type 0
IsResult globals ss (Some r) = IsType globals r
IsResult globals [] None = ⊥
IsResult globals (s ∷ ss) None = ⊤

-- what a name stands for has types
abbrev pub HasTypes : List Entry → Item → Type 0
HasTypes globals (item.Register w) = ⊤
HasTypes globals item.Enum = ⊤
HasTypes globals (item.Member e) = ⊤
HasTypes globals (item.Function ps r after) = AreSlots globals ps × IsResult globals ps r

-- all that names stand for have types
abbrev pub AllHaveTypes : List Entry → List Entry → Type 0
AllHaveTypes globals [] = ⊤
AllHaveTypes globals (e ∷ rest) = HasTypes globals e.item × AllHaveTypes globals rest

-- judged with no fault
abbrev pub IsTyped : Judged → Ty → Type 0
IsTyped j t = (j.type ≡ Some t) × Clean j.faults

-- accepted exactly by the judgement: with no fault there is a type, and a type is given without a fault
pub record Exact (globals : List Entry) (here : ℕ) (e : Tree) (want : Option Ty) (scope : List Local) : Type 0 where
  pub sound : Clean (judge globals here e want scope).faults → (t : Ty) × (((judge globals here e want scope).type ≡ Some t) × HasType globals here e want scope t)
  pub complete : (t : Ty) → HasType globals here e want scope t → IsTyped (judge globals here e want scope) t

-- expressions are accepted exactly by the judgement
abbrev pub TypingIsExact : Type 0
TypingIsExact = (globals : List Entry) (here : ℕ) (e : Tree) (want : Option Ty) (scope : List Local)
    → AllHaveTypes globals globals → Known scope → Exact globals here e want scope

-- programs too
abbrev pub ProgramsAreExact : Type 0
ProgramsAreExact = (defs : List Definition) → type_fault defs ≡ None ↔ IsTypedProgram defs

-- an expression has one type
abbrev pub TypesAreOne : Type 0
TypesAreOne = (globals : List Entry) (here : ℕ) (e : Tree) (want : Option Ty) (scope : List Local) (t u : Ty) → AllHaveTypes globals globals
    → HasType globals here e want scope t → HasType globals here e want scope u → t ≡ u
