-- The check of a program, and what is known of one that passed it.
use Rattle.std.specs.Prelude.{◌≡◌, ℕ, Bool, true, false, List, Option, Some, None, Result, Ok, Err, bytes_eq}
use Rattle.std.specs.BTreeMap.{BTreeMap}
use Rattle.std.specs.Global.{Vec}
use Rattle.std.specs.List.{position}
use Rattle.lex_core.specs.declared.name.RegDecl.{RegDecl}
use Rattle.sail_syntax.specs.Tree.{Text}
use Rattle.sail_syntax.specs.Program.{Definition, registers_of}
use Rattle.sail_syntax.specs.View.{program_of}
use Rattle.sail_syntax.specs.declared.definitions.Program.{Program}
use Rattle.sail_names.specs.declared.things.Thing.{Thing}
use Rattle.sail_names.specs.Things.{things_of}
use Rattle.sail_names.specs.Map.{IsMapOf}
use Rattle.type_rules.specs.Program.{type_fault, pc_number}
use Rattle.type_rules.specs.declared.fault.TypeFault.{TypeFault}
use Rattle.type_rules.specs.declared.fault.TypeFault.TheVariants as told

-- the program where it has no fault, else the fault that is told
abbrev pub unless_fault : Program → Option TypeFault → Result Program TypeFault
unless_fault p None = Ok p
unless_fault p (Some f) = Err f

abbrev pub checked : Program → Result Program TypeFault
checked p = unless_fault p (type_fault (program_of p))

-- whether a fault tells want of memory
abbrev pub is_want : TypeFault → Bool
is_want (told.Unknown x at) = false
is_want (told.Twice x at) = false
is_want (told.TypeDiffers want got at) = false
is_want told.NoInstr = false
is_want told.NoPc = false
is_want (told.Later x at) = false
is_want (told.CallHeight x at) = false
is_want (told.BadInstr16 at) = false
is_want told.NoMemory = true

-- the number of the first register of the name
abbrev pub register_at : Text → List RegDecl → Option ℕ
register_at x registers = position (λ r. bytes_eq r.name x) registers

-- a typed program, its registers, the number of PC among them, and what its names stand for
pub record IsPrepared (defs : List Definition) (registers : List RegDecl) (pc : ℕ) (things : BTreeMap (Vec ℕ) Thing) : Type 0 where
  pub typed : type_fault defs ≡ None
  pub registers_are : registers ≡ registers_of defs
  pub pc_is : pc_number defs ≡ Some pc
  pub names_are : IsMapOf (things_of defs) things
