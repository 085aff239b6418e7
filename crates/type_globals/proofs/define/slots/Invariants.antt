use Rattle.std.proofs.Common.{◌≡◌, ◌++◌, drop}
use Rattle.type_rules.specs.Names.{slots_of}
use Rattle.type_globals.proofs.define.slots.Given as goal

abbrev pub invariant-loop-param : goal.invariant-loop-param
invariant-loop-param l = l.slots ++ slots_of (drop l.param-index l.params) ≡ slots_of l.params
