-- What the code evaluates in, as the definitions have it.
use Rattle.std.specs.Prelude.{ℕ, Bool, true, false, List, ◌∷◌, reverse, map}
use Rattle.sail_syntax.specs.declared.definitions.Def.{Def}
use Rattle.sail_syntax.specs.View.{definition_of, program_of}
use Rattle.eval_rules.specs.Names as names
use Rattle.sail_syntax.specs.Program.{Definition, order, register, enumeration, signature, function}
use Rattle.sail_syntax.specs.Tree.{Text, Tree}
use Rattle.sail_values.specs.declared.value.Local.TheVariants as local
use Rattle.sail_values.specs.declared.value.Value.{Value}
use Rattle.sail_values.specs.declared.value.Value.TheVariants as value
use Rattle.eval_rules.specs.Flow.{Meaning, pure}
use Rattle.eval_rules.specs.Eval.{Calls, calls_of, setting_of, entered}
use Rattle.eval_rules.specs.Moments.{Passing, CallMoments, moments, moments_of_calls}
use Rattle.eval_trees.specs.declared.setting.Setting.{Setting}

-- what the names of the text stand for, and where the devices are
abbrev pub here_now : Setting → names.Setting
here_now s = setting_of (program_of s.typed.now) s.devs.now.ranges

-- what functions do that are defined so far
abbrev pub calls_in : names.Setting → List Def → Calls
calls_in here defs = calls_of here (reverse (map definition_of defs))

-- what functions do that may be called
abbrev pub calls_now : Setting → Calls
calls_now s = calls_in (here_now s) s.defs.now

-- the moments of calls of functions that are defined so far
abbrev pub moments_in : names.Setting → List Def → CallMoments
moments_in here defs = moments_of_calls here (reverse (map definition_of defs))

-- the moments of calls of functions that may be called
abbrev pub moments_now : Setting → CallMoments
moments_now s = moments_in (here_now s) s.defs.now

-- the moments of one turn of a foreach
abbrev pub turn_moments : names.Setting → Calls → CallMoments → Text → Tree → ℕ → Passing
turn_moments here calls calls_moments x body i = λ locals world. moments here calls calls_moments body (record { name = x; local = local.Counts i } ∷ locals) world

-- a call of the last definition
abbrev pub on_last : names.Setting → Calls → Definition → List Value → Meaning Value
on_last here above order vs = pure value.Unit
on_last here above (register x width at) vs = pure value.Unit
on_last here above (enumeration x members at) vs = pure value.Unit
on_last here above (signature x args result at) vs = pure value.Unit
on_last here above (function f) vs = entered here above f.params f.body vs

-- whether a definition is a function
abbrev pub is_function_definition : Definition → Bool
is_function_definition order = false
is_function_definition (register x width at) = false
is_function_definition (enumeration x members at) = false
is_function_definition (signature x args result at) = false
is_function_definition (function f) = true
