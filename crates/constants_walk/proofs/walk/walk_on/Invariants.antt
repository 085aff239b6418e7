use Rattle.std.proofs.Common.{◌≡◌, ◌≤◌, ◌-◌}
use Rattle.sail_syntax.specs.View.{program_of}
use Rattle.state_core.specs.State.{widths_of}
use Rattle.machine_safe.specs.First.{walk_from}
use Rattle.machine_run.specs.Program.{machine_of}
use Rattle.constants_walk.specs.Conditions.{constants_of}
use Rattle.constants_walk.proofs.walk.walk_on.Given as goal

abbrev pub invariant-loop-alloc : goal.invariant-loop-alloc
invariant-loop-alloc l =
    let m = machine_of (program_of l.typed) in
    let c = constants_of l.given l.code in
    record {
      widths : widths_of l.world.state ≡ widths_of l.fn.world.state;
      few : l.count ≤ l.most;
      rest : walk_from m c 0 l.given.entry_at l.most l.fn.world ≡ walk_from m c l.count l.last (l.most - l.count) l.world;
    }

abbrev pub decreases-loop-alloc : goal.decreases-loop-alloc
decreases-loop-alloc l = l.most - l.count
