-- Names that are declared one after the other, and the first fault so far.
use Rattle.std.specs.Prelude.{ℕ, List, ◌++◌, map, Option}
use Rattle.type_rules.specs.declared.fault.Fault.{Fault}
use Rattle.type_rules.specs.declared.scope.Entry.{Entry}
use Rattle.type_rules.specs.declared.scope.Item.{Item}
use Rattle.type_rules.specs.Faults.{first_from}
use Rattle.type_rules.specs.Names.{Declared, entry_of}
use Rattle.type_rules.specs.Program.{names_faults}
use Rattle.sail_syntax.specs.Tree.{Text}

-- one name, what it stands for, and the place of the definition that declares it
abbrev pub declared : Text → Item → ℕ → Declared
declared x i place = record { entry = record { name = x; item = i }; at = place }

-- the names behind those that were there
abbrev pub names_with : List Entry → List Declared → List Entry
names_with before ds = before ++ map entry_of ds

-- the first of the faults so far and those of these names
abbrev pub fault_with : Option Fault → List Entry → List Declared → Option Fault
fault_with best before ds = first_from best (names_faults before ds)
