-- The first function of a name, definition by definition.
use Rattle.std.proofs.Common.{◌≡◌, Bool, true, false, List, [], ◌∷◌, Some, None, refl, sym, ap, ◌∙◌}
use Rattle.std.specs.Prelude.{bytes_eq, if◌then◌else◌}
use Rattle.std.specs.declared.option.Option.{Option}
use Rattle.std.specs.Option.{option_map}
use Rattle.sail_syntax.specs.Tree.{Text}
use Rattle.sail_syntax.specs.Program.{Definition, Function, order, register, enumeration, signature, function, is_function}
use Rattle.type_rules.specs.Program.{announced}

passes : (f : Function) (x : Text) (b : Bool) (o : Option Function) → b ≡ false → (if b then Some f else o) ≡ o
passes f x true o h = absurd (cc)
passes f x false o h = refl

takes : (f : Function) (b : Bool) (o : Option Function) → b ≡ true → (if b then Some f else o) ≡ Some f
takes f true o h = refl
takes f false o h = absurd (cc)

-- behind a definition that isn't it
pub goes_on : (x : Text) (d : Definition) (ds : List Definition) → is_function x d ≡ false → announced x (d ∷ ds) ≡ announced x ds
goes_on x order ds h = refl
goes_on x (register y width at) ds h = refl
goes_on x (enumeration y members at) ds h = refl
goes_on x (signature y args result at) ds h = refl
goes_on x (function f) ds h = passes f x (bytes_eq f.name x) (announced x ds) h

-- the definition that is it
pub is_found : (x : Text) (d : Definition) (ds : List Definition) → is_function x d ≡ true → option_map function (announced x (d ∷ ds)) ≡ Some d
is_found x order ds h = absurd (cc)
is_found x (register y width at) ds h = absurd (cc)
is_found x (enumeration y members at) ds h = absurd (cc)
is_found x (signature y args result at) ds h = absurd (cc)
is_found x (function f) ds h = ap (option_map function) (takes f (bytes_eq f.name x) (announced x ds) h)
