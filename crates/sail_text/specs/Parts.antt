-- The texts of what holds no expression: names, numbers, types, indices and patterns.
--
-- Each token has one space before it.
use Rattle.std.specs.Prelude.{ℕ, zero, suc, Bool, true, false, List, [], ◌∷◌, ◌++◌, Option, Some, None, codes}
use Rattle.std.specs.Fmt.{decimal}
use Rattle.bv_bits.specs.declared.Bits.{Bits}
use Rattle.bit_text.specs.Texts.{literal_text}
use Rattle.sail_syntax.specs.Tree.{Text}
use Rattle.sail_syntax.specs.declared.tree.Infix.{Infix}
use Rattle.sail_syntax.specs.declared.tree.Infix.TheVariants as between
use Rattle.sail_syntax.specs.declared.tree.Index.{Index}
use Rattle.sail_syntax.specs.declared.patterns.Pattern.{Pattern}
use Rattle.sail_syntax.specs.declared.patterns.Pattern.TheVariants as pattern
use Rattle.sail_syntax.specs.declared.patterns.Part.{Part}
use Rattle.sail_syntax.specs.declared.patterns.Part.TheVariants as part
use Rattle.sail_syntax.specs.declared.types.Ty.{Ty}
use Rattle.sail_syntax.specs.declared.types.Ty.TheVariants as ty
use Rattle.sail_syntax.specs.declared.types.Param.{Param}

-- a name
abbrev pub name_text : Text → Text
name_text x = 32 ∷ x

-- a number in decimal digits
abbrev pub number_text : ℕ → Text
number_text n = 32 ∷ decimal n

-- a literal
abbrev pub bits_text : Bits → Text
bits_text b = 32 ∷ literal_text b

-- true or false
abbrev pub truth_text : Bool → Text
truth_text true = codes " true"
truth_text false = codes " false"

-- an operator between parts of a chain
abbrev pub infix_text : Infix → Text
infix_text between.Add = codes " +"
infix_text between.Sub = codes " -"
infix_text between.Mul = codes " *"
infix_text between.And = codes " &"
infix_text between.Or = codes " |"
infix_text between.Xor = codes " ^"
infix_text between.Join = codes " @"
infix_text between.Eq = codes " =="
infix_text between.Ne = codes " !="

-- bits(width)
abbrev pub width_text : ℕ → Text
width_text w = codes " bits (" ++ (number_text w ++ codes " )")

-- a type
abbrev pub type_text : Ty → Text
type_text ty.Unit = codes " unit"
type_text ty.Bool = codes " bool"
type_text (ty.Bits w) = width_text w
type_text (ty.Enum x) = name_text x

-- the type that is written behind a name, if one is
abbrev pub written_text : Option Ty → Text
written_text None = []
written_text (Some t) = codes " :" ++ type_text t

-- what is added to the variable of an index: nothing where that is 0
abbrev pub plus_text : ℕ → Text
plus_text zero = []
plus_text (suc n) = codes " +" ++ number_text (suc n)

-- an index, by its variable and its number
abbrev pub index_parts : Option Text → ℕ → Text
index_parts None n = number_text n
index_parts (Some x) n = name_text x ++ plus_text n

-- an index
abbrev pub index_text : Index → Text
index_text i = index_parts i.var i.plus

-- a part of a pattern
abbrev pub part_text : Part → Text
part_text (part.Lit b) = bits_text b
part_text (part.Bind x w) = name_text x ++ (codes " :" ++ width_text w)
part_text (part.Skip w) = codes " _ :" ++ width_text w

-- the parts of a pattern behind the first one
abbrev pub more_parts_text : List Part → Text
more_parts_text [] = []
more_parts_text (p ∷ ps) = codes " @" ++ (part_text p ++ more_parts_text ps)

-- the parts of a pattern
abbrev pub parts_text : List Part → Text
parts_text [] = []
parts_text (p ∷ ps) = part_text p ++ more_parts_text ps

-- a pattern
abbrev pub pattern_text : Pattern → Text
pattern_text pattern.Any = codes " _"
pattern_text (pattern.Name x) = name_text x
pattern_text (pattern.Lit b) = bits_text b
pattern_text (pattern.Truth b) = truth_text b
pattern_text (pattern.Parts ps) = parts_text ps

-- names behind the first one
abbrev pub more_names_text : List Text → Text
more_names_text [] = []
more_names_text (x ∷ xs) = codes " ," ++ (name_text x ++ more_names_text xs)

-- names in a row
abbrev pub names_text : List Text → Text
names_text [] = []
names_text (x ∷ xs) = name_text x ++ more_names_text xs

-- types behind the first one
abbrev pub more_types_text : List Ty → Text
more_types_text [] = []
more_types_text (t ∷ ts) = codes " ," ++ (type_text t ++ more_types_text ts)

-- types in a row
abbrev pub types_text : List Ty → Text
types_text [] = []
types_text (t ∷ ts) = type_text t ++ more_types_text ts

-- a parameter
abbrev pub param_text : Param → Text
param_text p = name_text p.name ++ (codes " :" ++ type_text p.ty)

-- parameters behind the first one
abbrev pub more_params_text : List Param → Text
more_params_text [] = []
more_params_text (p ∷ ps) = codes " ," ++ (param_text p ++ more_params_text ps)

-- parameters in a row
abbrev pub params_text : List Param → Text
params_text [] = []
params_text (p ∷ ps) = param_text p ++ more_params_text ps
