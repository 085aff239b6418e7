-- The faults of a program: those of its names, those of its definitions, and what it has to have to be run.
use Rattle.std.specs.Prelude.{◌≡◌, ℕ, ◌+◌, Bool, true, false, ◌&&◌, List, [], ◌∷◌, ◌++◌, length, Option, Some, None, bytes_eq, nat_eq, nat_le, if◌then◌else◌, codes, is_some}
use Rattle.std.specs.List.{position}
use Rattle.bv_bits.specs.Bits.{is_width}
use Rattle.lex_core.specs.declared.name.RegDecl.{RegDecl}
use Rattle.sail_syntax.specs.Tree.{Text, Tree}
use Rattle.sail_syntax.specs.Types.{is_same_type}
use Rattle.sail_syntax.specs.Program.{Definition, Function, order, register, enumeration, signature, function, registers_of, function_of}
use Rattle.sail_syntax.specs.declared.types.Ty.{Ty}
use Rattle.sail_syntax.specs.declared.types.Ty.TheVariants as ty
use Rattle.sail_syntax.specs.declared.types.Param.{Param}
use Rattle.type_rules.specs.declared.fault.Fault.{Fault}
use Rattle.type_rules.specs.declared.fault.Why.{Why}
use Rattle.type_rules.specs.declared.fault.Why.TheVariants.{Twice, Differs, Later, TooHigh}
use Rattle.type_rules.specs.declared.fault.TypeFault.{TypeFault}
use Rattle.type_rules.specs.declared.fault.TypeFault.TheVariants as told
use Rattle.type_rules.specs.declared.scope.Entry.{Entry}
use Rattle.type_rules.specs.declared.scope.Local.{Local}
use Rattle.type_rules.specs.declared.scope.Sort.TheVariants.{Holds}
use Rattle.type_rules.specs.Faults.{Faults, fine, fault, both, first, as_told}
use Rattle.type_rules.specs.Names.{find, is_free, Declared, declared_from, prelude, globals_of, known}
use Rattle.type_rules.specs.Rules.{taken, written}
use Rattle.type_rules.specs.Judge.{judge}
use Rattle.type_rules.specs.Heights.{Height, own_height, most_calls}

-- something is wrong at a place
abbrev pub wrong : ℕ → Why → Faults
wrong at why = fault (record { at = at; why = why })

-- ---- the one space of names

-- names that are taken by those in front of them
abbrev pub names_faults : List Entry → List Declared → Faults
names_faults before [] = fine
names_faults before (d ∷ ds) =
    both (if is_free (find d.entry.name before) then fine else wrong d.at (Twice d.entry.name)) (names_faults (before ++ d.entry ∷ []) ds)

-- ---- a val, and the function that it announces

-- the first function of the name
abbrev pub announced : Text → List Definition → Option Function
announced x [] = None
announced x (order ∷ ds) = announced x ds
announced x (register y width at ∷ ds) = announced x ds
announced x (enumeration y members at ∷ ds) = announced x ds
announced x (signature y args result at ∷ ds) = announced x ds
announced x (function f ∷ ds) = if bytes_eq f.name x then Some f else announced x ds

-- two types that have to be the same
abbrev pub compared : ℕ → Ty → Ty → Faults
compared at want got = if is_same_type want got then fine else wrong at (Differs want got)

-- argument by argument and then the result: the first that differs
abbrev pub compared_each : ℕ → List Ty → List Param → Ty → Ty → Faults
compared_each at [] ps result got = compared at result got
compared_each at (t ∷ ts) [] result got = compared at result got
compared_each at (t ∷ ts) (p ∷ ps) result got =
    if is_same_type t p.ty then compared_each at ts ps result got else wrong at (Differs t p.ty)

-- a val, and the function of its name below it; another number of arguments gives the two results
abbrev pub val_faults : Text → ℕ → List Ty → Ty → Option Function → Faults
val_faults x at args result None = wrong at (Later x)
val_faults x at args result (Some f) =
    if nat_eq (length args) (length f.params) then compared_each at args f.params result f.result else wrong at (Differs result f.result)

-- ---- definitions

-- the height of a function
abbrev pub height_faults : Text → ℕ → ℕ → Faults
height_faults x at n = if nat_le n most_calls then fine else wrong at (TooHigh x)

-- the functions above what follows a definition
abbrev pub heights_after : Definition → List Height → List Height
heights_after order above = above
heights_after (register x width at) above = above
heights_after (enumeration x members at) above = above
heights_after (signature x args result at) above = above
heights_after (function f) above = record { name = f.name; calls = own_height above f.body } ∷ above

module _ (globals : List Entry) where
  -- types that are written in a definition
  abbrev pub types_faults : ℕ → List Ty → Faults
  types_faults at [] = fine
  types_faults at (t ∷ ts) = both (written globals at t).faults (types_faults at ts)

  -- parameters: their types, and their names, which are locals
  abbrev pub params_faults : ℕ → List Param → Faults
  params_faults at [] = fine
  params_faults at (p ∷ ps) = both (both (written globals at p.ty).faults (taken globals p.name at).faults) (params_faults at ps)

  -- the locals of a body: of two parameters with one name the later one counts
  abbrev pub params_scope : List Param → List Local → List Local
  params_scope [] scope = scope
  params_scope (p ∷ ps) scope = params_scope ps (record { name = p.name; sort = Holds (known globals p.ty) false } ∷ scope)

  -- a definition, where those functions and so many definitions stand above it, and others below
  abbrev pub definition_faults : Definition → List Height → ℕ → List Definition → Faults
  definition_faults order above i below = fine
  definition_faults (register x width at) above i below = (written globals at (ty.Bits width)).faults
  definition_faults (enumeration x members at) above i below = fine
  definition_faults (signature x args result at) above i below =
      both (types_faults at args) (both (written globals at result).faults (val_faults x at args result (announced x below)))
  definition_faults (function f) above i below =
      both (params_faults f.at f.params) (
      both (written globals f.at f.result).faults (
      both (height_faults f.name f.at (own_height above f.body))
      (judge globals i f.body (known globals f.result) (params_scope f.params [])).faults))

  -- definitions, each as if the faults of the others weren't there
  abbrev pub definitions_faults : List Definition → List Height → ℕ → Faults
  definitions_faults [] above i = fine
  definitions_faults (d ∷ ds) above i = both (definition_faults d above i ds) (definitions_faults ds (heights_after d above) (i + 1))

-- all that can be said of a program's names and definitions
abbrev pub program_faults : List Definition → Faults
program_faults defs = both (names_faults prelude (declared_from defs 0)) (definitions_faults (globals_of defs) defs [] 0)

-- ---- what a program has to have to be run

-- one parameter of so many bits
abbrev pub takes_word : ℕ → List Param → Bool
takes_word w [] = false
takes_word w (p ∷ []) = is_same_type p.ty (ty.Bits w)
takes_word w (p ∷ q ∷ ps) = false

-- a function that takes a word of so many bits and gives unit
abbrev pub is_of_word : ℕ → Function → Bool
is_of_word w f = takes_word w f.params && is_same_type f.result ty.Unit

-- the function is there, and takes such a word
abbrev pub has_word : ℕ → Option Function → Bool
has_word w None = false
has_word w (Some f) = is_of_word w f

-- the function isn't there, or takes such a word
abbrev pub may_have_word : ℕ → Option Function → Bool
may_have_word w None = true
may_have_word w (Some f) = is_of_word w f

-- where a function begins; 0 where there is none
abbrev pub begins_at : Option Function → ℕ
begins_at None = 0
begins_at (Some f) = f.at

-- the register is PC, of 64 bits
abbrev pub is_pc : RegDecl → Bool
is_pc r = bytes_eq r.name (codes "PC") && nat_eq r.width 64

-- the number of the register PC
abbrev pub pc_number : List Definition → Option ℕ
pc_number defs = position is_pc (registers_of defs)

-- the function that a word of 32 bits is given to, and the one that a word of 16 bits is given to, if there is one
abbrev pub instr_of : List Definition → Option Function
instr_of defs = function_of defs (codes "instr")

abbrev pub instr16_of : List Definition → Option Function
instr16_of defs = function_of defs (codes "instr16")

-- what is missing of a program without other faults: `instr`, then PC, then a type of `instr16` that fits
abbrev pub entry_fault : List Definition → Option TypeFault
entry_fault defs =
    if has_word 32 (instr_of defs)
    then (if is_some (pc_number defs)
    then (if may_have_word 16 (instr16_of defs) then None else Some (told.BadInstr16 (begins_at (instr16_of defs))))
    else Some told.NoPc)
    else Some told.NoInstr

-- the fault with a place that comes first, else what is missing
abbrev pub fault_or : Option Fault → Option TypeFault → Option TypeFault
fault_or None missing = missing
fault_or (Some f) missing = Some (as_told f.at f.why)

-- the fault of a program that is told; none where it is typed
abbrev pub type_fault : List Definition → Option TypeFault
type_fault defs = fault_or (first (program_faults defs)) (entry_fault defs)
