-- The fault that is told, from the best that was found.
use Rattle.std.proofs.Common.{◌≡◌, ℕ, List, [], Some, None, refl, sym, ap, ◌∙◌}
use Rattle.std.specs.declared.option.Option.{Option}
use Rattle.sail_syntax.specs.Program.{Definition}
use Rattle.type_rules.specs.declared.fault.Fault.{Fault}
use Rattle.type_rules.specs.declared.fault.TypeFault.{TypeFault}
use Rattle.type_rules.specs.declared.scope.Entry.{Entry}
use Rattle.type_rules.specs.Faults.{first, first_from}
use Rattle.type_rules.specs.Names.{prelude, declared_from, globals_of}
use Rattle.type_rules.specs.Program.{names_faults, definitions_faults, program_faults, fault_or, entry_fault, type_fault}

-- the best of names and definitions is that of the program
pub told : (defs : List Definition) (globals : List Entry) (one two : Option Fault) → globals ≡ globals_of defs
    → one ≡ first_from None (names_faults prelude (declared_from defs 0)) → two ≡ first_from one (definitions_faults globals defs [] 0)
    → fault_or two (entry_fault defs) ≡ type_fault defs
told defs globals one two names first_is second_is =
    ap (λ (o : Option Fault). fault_or o (entry_fault defs))
    (second_is ∙ ap (λ (o : Option Fault). first_from o (definitions_faults globals defs [] 0)) first_is
    ∙ ap (λ (g : List Entry). first_from (first_from None (names_faults prelude (declared_from defs 0))) (definitions_faults g defs [] 0)) names)
