-- What the names of a typed program stand for is there, and what it calls lies above.
use Rattle.std.specs.Prelude.{◌≡◌, ◌≤◌, ◌<◌, ℕ, ◌+◌, List, [], ◌∷◌, Option, Some, None, ◌⊎◌, slice_get}
use Rattle.sail_syntax.specs.Tree.{Text, Tree}
use Rattle.sail_syntax.specs.Program.{Definition, Function, order, register, enumeration, signature, function}
use Rattle.sail_syntax.specs.declared.types.Ty.{Ty}
use Rattle.type_rules.specs.declared.scope.Entry.{Entry}
use Rattle.type_rules.specs.declared.scope.Item.{Item}
use Rattle.type_rules.specs.declared.scope.Item.TheVariants as item
use Rattle.type_rules.specs.declared.scope.Slot.{Slot}
use Rattle.type_rules.specs.declared.scope.Local.{Local}
use Rattle.type_rules.specs.Names.{find, Declared, slots_of, declared_from, prelude, globals_of}
use Rattle.type_rules.specs.Heights.{Height, height_of, own_height}
use Rattle.type_rules.specs.HasType.{HasType}
use Rattle.type_rules.specs.IsTyped.{IsTypedProgram}
use Rattle.type_rules.specs.Calls.{CallsIn}

-- a name is one of some
abbrev pub IsOneOf : Text → List Text → Type 0
IsOneOf x [] = ⊥
IsOneOf x (y ∷ ys) = (y ≡ x) ⊎ IsOneOf x ys

-- the register of the name and the width
pub record IsRegister (defs : List Definition) (x : Text) (w : ℕ) : Type 0 where
  pub number : ℕ
  pub at : ℕ
  pub is : slice_get defs number ≡ Some (register x w at)

-- the enum of the name
pub record IsEnum (defs : List Definition) (x : Text) : Type 0 where
  pub number : ℕ
  pub at : ℕ
  pub members : List Text
  pub is : slice_get defs number ≡ Some (enumeration x members at)

-- the member of the enum
pub record IsMember (defs : List Definition) (x of : Text) : Type 0 where
  pub number : ℕ
  pub at : ℕ
  pub members : List Text
  pub is : slice_get defs number ≡ Some (enumeration of members at)
  pub one : IsOneOf x members

-- the function of the name, with what it asks and gives, complete behind its own definition
pub record IsFunction (defs : List Definition) (x : Text) (params : List Slot) (result : Option Ty) (after : ℕ) : Type 0 where
  pub number : ℕ
  pub function_there : Function
  pub is : slice_get defs number ≡ Some (function function_there)
  pub name : function_there.name ≡ x
  pub asks : slots_of function_there.params ≡ params
  pub gives : Some function_there.result ≡ result
  pub behind : after ≡ number + 1

-- what a name stands for is there
abbrev pub IsThereAs : List Definition → Text → Item → Type 0
IsThereAs defs x (item.Register w) = IsRegister defs x w
IsThereAs defs x item.Enum = IsEnum defs x
IsThereAs defs x (item.Member e) = IsMember defs x e
IsThereAs defs x (item.Function ps r after) = IsFunction defs x ps r after

-- whatever is found is of the prelude or stands in the program
abbrev pub FoundIsThere : Type 0
FoundIsThere = (defs : List Definition) (x : Text) (i : Item) → find x (globals_of defs) ≡ Some i → (find x prelude ≡ Some i) ⊎ IsThereAs defs x i

-- a function that is complete above
pub record IsAbove (globals : List Entry) (here : ℕ) (f : Text) : Type 0 where
  pub params : List Slot
  pub result : Option Ty
  pub after : ℕ
  pub found : find f globals ≡ Some (item.Function params result after)
  pub above : after ≤ here

-- what a typed expression calls is complete above
abbrev pub CallsAreAbove : Type 0
CallsAreAbove = (globals : List Entry) (here : ℕ) (e : Tree) (want : Option Ty) (scope : List Local) (t : Ty) (f : Text)
    → HasType globals here e want scope t → CallsIn f e → IsAbove globals here f

-- what a function calls has a lower height
abbrev pub HeightsFall : Type 0
HeightsFall = (above : List Height) (body : Tree) (f : Text) → CallsIn f body → height_of f above < own_height above body
