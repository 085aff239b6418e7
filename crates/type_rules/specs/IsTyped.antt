-- The typing judgement of definitions and programs.
use Rattle.std.specs.Prelude.{◌≡◌, ◌≤◌, ℕ, ◌+◌, Bool, true, false, List, [], ◌∷◌, ◌++◌, Option, Some, None, IsSome, ⊤}
use Rattle.bv_bits.specs.Bits.{IsWidth}
use Rattle.sail_syntax.specs.Tree.{Text}
use Rattle.sail_syntax.specs.Program.{Definition, Function, order, register, enumeration, signature, function}
use Rattle.sail_syntax.specs.declared.types.Ty.{Ty}
use Rattle.sail_syntax.specs.declared.types.Param.{Param}
use Rattle.type_rules.specs.declared.scope.Entry.{Entry}
use Rattle.type_rules.specs.declared.scope.Local.{Local}
use Rattle.type_rules.specs.declared.scope.Sort.TheVariants.{Holds}
use Rattle.type_rules.specs.Names.{find, Declared, declared_from, prelude, globals_of}
use Rattle.type_rules.specs.Heights.{Height, own_height, most_calls}
use Rattle.type_rules.specs.HasType.{IsType, IsFree, HasType}
use Rattle.type_rules.specs.Program.{announced, has_word, may_have_word, instr_of, instr16_of, pc_number, heights_after}

-- each name is new
abbrev pub AreNew : List Entry → List Declared → Type 0
AreNew before [] = ⊤
AreNew before (d ∷ ds) = (find d.entry.name before ≡ None) × AreNew (before ++ d.entry ∷ []) ds

-- arguments of a val, and the parameters of its function
abbrev pub AreAlike : List Ty → List Param → Type 0
AreAlike [] [] = ⊤
AreAlike [] (p ∷ ps) = ⊥
AreAlike (t ∷ ts) [] = ⊥
AreAlike (t ∷ ts) (p ∷ ps) = (t ≡ p.ty) × AreAlike ts ps

-- a val agrees with the function below it
abbrev pub Agrees : List Ty → Ty → Option Function → Type 0
Agrees args result None = ⊥
Agrees args result (Some f) = AreAlike args f.params × (result ≡ f.result)

-- the locals of a body
abbrev pub locals_of : List Param → List Local → List Local
locals_of [] scope = scope
locals_of (p ∷ ps) scope = locals_of ps (record { name = p.name; sort = Holds (Some p.ty) false } ∷ scope)

module _ (globals : List Entry) where
  -- types
  abbrev pub AreTypes : List Ty → Type 0
  AreTypes [] = ⊤
  AreTypes (t ∷ ts) = IsType globals t × AreTypes ts

  -- parameters have types, and new names
  abbrev pub AreParams : List Param → Type 0
  AreParams [] = ⊤
  AreParams (p ∷ ps) = IsType globals p.ty × IsFree globals p.name × AreParams ps

  -- a function whose body has its result, which calls no higher than is allowed
  pub record IsTypedFunction (f : Function) (above : List Height) (i : ℕ) : Type 0 where
    pub params : AreParams f.params
    pub result : IsType globals f.result
    pub height : own_height above f.body ≤ most_calls
    pub body : HasType globals i f.body (Some f.result) (locals_of f.params []) f.result

  -- a definition, where those functions and so many definitions stand above it, and others below
  abbrev pub IsTypedDefinition : Definition → List Height → ℕ → List Definition → Type 0
  IsTypedDefinition order above i below = ⊤
  IsTypedDefinition (register x width at) above i below = IsWidth width
  IsTypedDefinition (enumeration x members at) above i below = ⊤
  IsTypedDefinition (signature x args result at) above i below = AreTypes args × IsType globals result × Agrees args result (announced x below)
  IsTypedDefinition (function f) above i below = IsTypedFunction f above i

  -- all of them
  abbrev pub AreTypedDefinitions : List Definition → List Height → ℕ → Type 0
  AreTypedDefinitions [] above i = ⊤
  AreTypedDefinitions (d ∷ ds) above i = IsTypedDefinition d above i ds × AreTypedDefinitions ds (heights_after d above) (i + 1)

-- a program that is typed
pub record IsTypedProgram (defs : List Definition) : Type 0 where
  -- names are one space
  pub names : AreNew prelude (declared_from defs 0)
  pub definitions : AreTypedDefinitions (globals_of defs) defs [] 0
  -- `instr` takes a word of 32 bits and gives unit
  pub instr : has_word 32 (instr_of defs) ≡ true
  -- PC is a register of 64 bits
  pub pc : IsSome (pc_number defs)
  -- `instr16`, where it is there, takes a word of 16 bits and gives unit
  pub instr16 : may_have_word 16 (instr16_of defs) ≡ true
