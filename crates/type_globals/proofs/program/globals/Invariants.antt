use Rattle.std.proofs.Common.{◌≡◌, drop}
use Rattle.sail_syntax.specs.View.{definition_of}
use Rattle.std.specs.Prelude.{map}
use Rattle.type_rules.specs.Names.{declared_from}
use Rattle.type_names.specs.Borrowed.{maybe_fault}
use Rattle.type_globals.specs.Declared.{names_with, fault_with}
use Rattle.type_globals.proofs.program.globals.Given as goal

abbrev pub invariant-loop-place : goal.invariant-loop-place
invariant-loop-place l = record {
  names : names_with l.names (declared_from (map definition_of (drop l.place l.program.defs)) l.place)
      ≡ names_with l.initial.names (declared_from (map definition_of l.program.defs) 0);
  first : fault_with (maybe_fault l.best) l.names (declared_from (map definition_of (drop l.place l.program.defs)) l.place)
      ≡ fault_with (maybe_fault l.initial.best) l.initial.names (declared_from (map definition_of l.program.defs) 0);
}
