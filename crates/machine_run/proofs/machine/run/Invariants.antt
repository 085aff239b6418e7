use Rattle.std.proofs.Common.{◌≡◌, ◌-◌}
use Rattle.sail_syntax.specs.View.{program_of}
use Rattle.state_core.specs.State.{widths_of}
use Rattle.machine_run.specs.Machine as spec
use Rattle.machine_run.specs.Program.{machine_of}
use Rattle.machine_run.proofs.Left.{IsBegun}
use Rattle.machine_run.proofs.Runs.{IsRest}
use Rattle.machine_run.proofs.machine.run.Given as goal

abbrev pub invariant-loop-done : goal.invariant-loop-done
invariant-loop-done l =
    let m = machine_of (program_of l.typed) in
    record {
      widths : widths_of l.world.state ≡ widths_of l.fn.world.state;
      rest : IsRest (spec.run m l.devs.ranges l.exits l.n l.fn.world) l.done
          (spec.run m l.devs.ranges l.exits (l.n - l.done) l.world);
      begun : IsBegun m l.devs.ranges l.exits l.done l.fn.world l.world;
    }
