use Rattle.std.proofs.Common.{◌≡◌, drop}
use Rattle.type_rules.specs.Names.{members_of}
use Rattle.type_names.specs.Borrowed.{maybe_fault}
use Rattle.type_globals.specs.Declared.{names_with, fault_with}
use Rattle.type_globals.proofs.declare.members.Given as goal

abbrev pub invariant-loop-member : goal.invariant-loop-member
invariant-loop-member l = record {
  names : names_with l.names (members_of l.of l.at (drop l.member-index l.members))
      ≡ names_with l.initial.names (members_of l.of l.at l.members);
  first : fault_with (maybe_fault l.best) l.names (members_of l.of l.at (drop l.member-index l.members))
      ≡ fault_with (maybe_fault l.initial.best) l.initial.names (members_of l.of l.at l.members);
}
