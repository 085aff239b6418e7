-- The texts of definitions and programs: a line for each definition.
use Rattle.std.specs.Prelude.{ℕ, List, [], ◌∷◌, ◌++◌, codes}
use Rattle.sail_syntax.specs.Tree.{Text, Tree}
use Rattle.sail_syntax.specs.declared.types.Ty.{Ty}
use Rattle.sail_syntax.specs.declared.types.Param.{Param}
use Rattle.sail_syntax.specs.Program.{Definition, Function, order, register, enumeration, signature, function}
use Rattle.sail_text.specs.Parts.{name_text, width_text, type_text, names_text, types_text, params_text}
use Rattle.sail_text.specs.Expressions.{tree_text}

-- a function: its head, and its body
abbrev pub function_text : Text → List Param → Ty → Tree → Text
function_text x params result body =
    codes "function" ++ (name_text x ++ (codes " (" ++ (params_text params ++ (codes " ) ->" ++ (type_text result ++ (codes " =" ++ tree_text body))))))

-- a definition
abbrev pub definition_text : Definition → Text
definition_text order = codes "default Order dec"
definition_text (register x width at) = codes "register" ++ (name_text x ++ (codes " :" ++ width_text width))
definition_text (enumeration x members at) = codes "enum" ++ (name_text x ++ (codes " = {" ++ (names_text members ++ codes " }")))
definition_text (signature x args result at) =
    codes "val" ++ (name_text x ++ (codes " : (" ++ (types_text args ++ (codes " ) ->" ++ type_text result))))
definition_text (function f) = function_text f.name f.params f.result f.body

-- the text of a program: each definition on a line of its own, which ends with a newline
abbrev pub printed : List Definition → Text
printed [] = []
printed (d ∷ ds) = definition_text d ++ (10 ∷ printed ds)
