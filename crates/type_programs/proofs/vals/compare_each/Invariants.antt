use Rattle.std.proofs.Common.{◌≡◌, ◌≤◌, ◌-◌, drop, length}
use Rattle.type_rules.specs.Faults.{first_from}
use Rattle.type_rules.specs.Program.{compared_each}
use Rattle.type_names.specs.Borrowed.{maybe_fault}
use Rattle.type_programs.proofs.vals.compare_each.Given as goal

abbrev pub invariant-loop-i : goal.invariant-loop-i
invariant-loop-i l = record {
  args : l.i ≤ length l.args;
  params : l.i ≤ length l.params;
  kept : l.best ≡ l.fn.best;
  left : compared_each l.at (drop l.i l.args) (drop l.i l.params) l.announced l.given ≡ compared_each l.at l.args l.params l.announced l.given;
}

abbrev pub decreases-loop-i : goal.decreases-loop-i
decreases-loop-i l = length l.args - l.i
