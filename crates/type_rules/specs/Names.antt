-- Names: those of the whole text and of the prelude, which are one space, and locals, where the newest counts.
use Rattle.std.specs.Prelude.{ℕ, ◌+◌, ◌*◌, Bool, true, false, ◌&&◌, List, [], ◌∷◌, ◌++◌, map, Option, Some, None, bytes_eq, nat_lt, ◌^◌, if◌then◌else◌, codes}
use Rattle.bv_bits.specs.Bits.{is_width}
use Rattle.sail_syntax.specs.Tree.{Text}
use Rattle.sail_syntax.specs.Program.{Definition, order, register, enumeration, signature, function}
use Rattle.sail_syntax.specs.declared.types.Ty.{Ty}
use Rattle.sail_syntax.specs.declared.types.Ty.TheVariants as ty
use Rattle.sail_syntax.specs.declared.types.Param.{Param}
use Rattle.type_rules.specs.declared.scope.Entry.{Entry}
use Rattle.type_rules.specs.declared.scope.Item.{Item}
use Rattle.type_rules.specs.declared.scope.Item.TheVariants as item
use Rattle.type_rules.specs.declared.scope.Slot.{Slot}
use Rattle.type_rules.specs.declared.scope.Slot.TheVariants as slot
use Rattle.type_rules.specs.declared.scope.Sort.{Sort}
use Rattle.type_rules.specs.declared.scope.Local.{Local}

-- ---- names of the whole text

-- what a name stands for: of two entries with one name, the first counts
abbrev pub find : Text → List Entry → Option Item
find x [] = None
find x (e ∷ rest) = if bytes_eq e.name x then Some e.item else find x rest

-- the name is free
abbrev pub is_free : Option Item → Bool
is_free (Some i) = false
is_free None = true

-- it is the name of an enum
abbrev pub is_enum : Option Item → Bool
is_enum (Some item.Enum) = true
is_enum (Some (item.Register w)) = false
is_enum (Some (item.Member e)) = false
is_enum (Some (item.Function ps r after)) = false
is_enum None = false

-- an entry, and the place of the definition that declares it
pub record Declared : Type 0 where
  pub entry : Entry
  pub at : ℕ

-- the members of an enum
abbrev pub members_of : Text → ℕ → List Text → List Declared
members_of of at [] = []
members_of of at (m ∷ ms) = record { entry = record { name = m; item = item.Member of }; at = at } ∷ members_of of at ms

-- what a function asks of its arguments
abbrev pub slots_of : List Param → List Slot
slots_of [] = []
slots_of (p ∷ ps) = slot.Is p.ty ∷ slots_of ps

-- what a definition declares, where so many stand in front of it
abbrev pub declares : Definition → ℕ → List Declared
declares order i = []
declares (register x width at) i = record { entry = record { name = x; item = item.Register width }; at = at } ∷ []
declares (enumeration x members at) i = record { entry = record { name = x; item = item.Enum }; at = at } ∷ members_of x at members
declares (signature x args result at) i = []
declares (function f) i = record { entry = record { name = f.name; item = item.Function (slots_of f.params) (Some f.result) (i + 1) }; at = f.at } ∷ []

-- what definitions declare, where so many stand in front of them
abbrev pub declared_from : List Definition → ℕ → List Declared
declared_from [] i = []
declared_from (d ∷ ds) i = declares d i ++ declared_from ds (i + 1)

-- ---- the prelude

-- a function of the prelude, which is complete in front of all definitions
abbrev pub given : Text → List Slot → Option Ty → Entry
given x params result = record { name = x; item = item.Function params result 0 }

-- so many bits
abbrev pub bits : ℕ → Ty
bits w = ty.Bits w

-- not of bool; comparisons of two of one width; shifts, where the amount has any width; quotients and rests of two of one width
abbrev pub given_operators : List Entry
given_operators =
    given (codes "not") (slot.Is ty.Bool ∷ []) (Some ty.Bool)
    ∷ given (codes "lt_u") (slot.AnyBits ∷ slot.Alike ∷ []) (Some ty.Bool)
    ∷ given (codes "lt_s") (slot.AnyBits ∷ slot.Alike ∷ []) (Some ty.Bool)
    ∷ given (codes "shift_left") (slot.AnyBits ∷ slot.AnyBits ∷ []) None
    ∷ given (codes "shift_right") (slot.AnyBits ∷ slot.AnyBits ∷ []) None
    ∷ given (codes "shift_right_arith") (slot.AnyBits ∷ slot.AnyBits ∷ []) None
    ∷ given (codes "div_u") (slot.AnyBits ∷ slot.Alike ∷ []) None
    ∷ given (codes "rem_u") (slot.AnyBits ∷ slot.Alike ∷ []) None
    ∷ given (codes "div_s") (slot.AnyBits ∷ slot.Alike ∷ []) None
    ∷ given (codes "rem_s") (slot.AnyBits ∷ slot.Alike ∷ []) None
    ∷ []

-- reads of so many bytes, and writes, at an address of 64 bits
abbrev pub given_accesses : List Entry
given_accesses =
    given (codes "mem_read_1") (slot.Is (bits 64) ∷ []) (Some (bits 8))
    ∷ given (codes "mem_read_2") (slot.Is (bits 64) ∷ []) (Some (bits 16))
    ∷ given (codes "mem_read_4") (slot.Is (bits 64) ∷ []) (Some (bits 32))
    ∷ given (codes "mem_read_8") (slot.Is (bits 64) ∷ []) (Some (bits 64))
    ∷ given (codes "mem_read_16") (slot.Is (bits 64) ∷ []) (Some (bits 128))
    ∷ given (codes "mem_write_1") (slot.Is (bits 64) ∷ slot.Is (bits 8) ∷ []) (Some ty.Unit)
    ∷ given (codes "mem_write_2") (slot.Is (bits 64) ∷ slot.Is (bits 16) ∷ []) (Some ty.Unit)
    ∷ given (codes "mem_write_4") (slot.Is (bits 64) ∷ slot.Is (bits 32) ∷ []) (Some ty.Unit)
    ∷ given (codes "mem_write_8") (slot.Is (bits 64) ∷ slot.Is (bits 64) ∷ []) (Some ty.Unit)
    ∷ given (codes "mem_write_16") (slot.Is (bits 64) ∷ slot.Is (bits 128) ∷ []) (Some ty.Unit)
    ∷ []

-- the prelude
abbrev pub prelude : List Entry
prelude = given_operators ++ given_accesses

-- the entry alone
abbrev pub entry_of : Declared → Entry
entry_of d = d.entry

-- the prelude, and all that a program declares
abbrev pub globals_of : List Definition → List Entry
globals_of defs = prelude ++ map entry_of (declared_from defs 0)

-- ---- types

module _ (globals : List Entry) where
  -- it is a type: of bits with a width from 1 to 128, or of an enum that is there
  abbrev pub is_type : Ty → Bool
  is_type ty.Unit = true
  is_type ty.Bool = true
  is_type (ty.Bits w) = is_width w
  is_type (ty.Enum x) = is_enum (find x globals)

  -- the type, where it is one
  abbrev pub known : Ty → Option Ty
  known t = if is_type t then Some t else None

-- ---- locals

-- what a local name stands for: the newest counts
abbrev pub look : Text → List Local → Option Sort
look x [] = None
look x (d ∷ rest) = if bytes_eq d.name x then Some d.sort else look x rest
