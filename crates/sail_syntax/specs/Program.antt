-- A program as plain data: the list of its definitions, and what is looked up in it.
use Rattle.std.specs.Prelude.{ℕ, Bool, false, List, Option, Some, None, find, bytes_eq}
use Rattle.std.specs.List.{filter_map, position_from}
use Rattle.lex_core.specs.declared.name.RegDecl.{RegDecl}
use Rattle.sail_syntax.specs.declared.types.Ty.{Ty}
use Rattle.sail_syntax.specs.declared.types.Param.{Param}
use Rattle.sail_syntax.specs.Tree.{Text, Tree}

-- a function of a program, and where its definition begins
pub record Function : Type 0 where
  pub name : Text
  pub params : List Param
  pub result : Ty
  pub body : Tree
  pub at : ℕ

-- a definition, with where its first token begins
pub data Definition : Type 0 where
  -- the order of bits, decreasing
  order : Definition
  -- a register and its width
  register : (x : Text) → (width : ℕ) → (at : ℕ) → Definition
  -- an enum and its members
  enumeration : (x : Text) → (members : List Text) → (at : ℕ) → Definition
  -- the types of a function that is defined later
  signature : (x : Text) → (args : List Ty) → (result : Ty) → (at : ℕ) → Definition
  -- a function
  function : (f : Function) → Definition

-- the register that a definition declares
abbrev pub register_of : Definition → Option RegDecl
register_of order = None
register_of (register x width at) = Some (record { name = x; width = width })
register_of (enumeration x members at) = None
register_of (signature x args result at) = None
register_of (function f) = None

-- the registers of a program, in order
abbrev pub registers_of : List Definition → List RegDecl
registers_of defs = filter_map register_of defs

-- the function that a definition gives
abbrev pub given_function : Definition → Option Function
given_function order = None
given_function (register x width at) = None
given_function (enumeration x members at) = None
given_function (signature x args result at) = None
given_function (function f) = Some f

-- the functions of a program, in order
abbrev pub functions_of : List Definition → List Function
functions_of defs = filter_map given_function defs

-- the first function of this name
abbrev pub function_of : List Definition → Text → Option Function
function_of defs x = find (λ f. bytes_eq f.name x) (functions_of defs)

-- whether a definition is the function of this name
abbrev pub is_function : Text → Definition → Bool
is_function x order = false
is_function x (register y width at) = false
is_function x (enumeration y members at) = false
is_function x (signature y args result at) = false
is_function x (function f) = bytes_eq f.name x

-- the number of the first function of this name among the definitions, from 0
abbrev pub function_place : List Definition → Text → Option ℕ
function_place defs x = position_from (is_function x) 0 defs
