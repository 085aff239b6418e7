-- The definition at the place of a function.
use Rattle.std.proofs.Common.{◌≡◌, ℕ, zero, suc, ◌<◌, true, List, [], ◌∷◌, Some, length, get_or, drop, map, slice_get, sym, ap, ◌∙◌, arith}
use Rattle.std.specs.Option.{option_map}
use Rattle.sail_syntax.specs.declared.definitions.Def.{Def}
use Rattle.sail_syntax.specs.Tree.{Text}
use Rattle.sail_syntax.specs.Program.{Definition, order, register, enumeration, signature, function, is_function, function_of}
use Rattle.sail_syntax.specs.View.{definition_of}

-- a function of the name, and then any definitions: it is the first
head_is_first : (e : Definition) (rest : List Definition) (x : Text) → is_function x e ≡ true → Some e ≡ option_map function (function_of (e ∷ rest) x)
head_is_first order rest x h = cc
head_is_first (register y width at) rest x h = cc
head_is_first (enumeration y members at) rest x h = cc
head_is_first (signature y args result at) rest x h = cc
head_is_first (function f) rest x h = rw h

-- the function of the name at a place is the first from there on
pub function_at : (defs : List Def) (k : ℕ) (d : Def) (x : Text) → k < length defs → d ≡ get_or defs k d → is_function x (definition_of d) ≡ true → slice_get (map definition_of defs) k ≡ option_map function (function_of (map definition_of (drop k defs)) x)
function_at [] k d x within is h = absurd (omega arith)
function_at (e ∷ defs) zero d x within is h =
    head_is_first (definition_of e) (map definition_of defs) x (ap (λ d. is_function x (definition_of d)) (sym is) ∙ h)
function_at (e ∷ defs) (suc k) d x within is h = function_at defs k d x (omega arith) is h
