use Rattle.std.proofs.Common.{◌≡◌, ◌++◌, map, drop}
use Rattle.machine_run.specs.Program.{width_in}
use Rattle.machine_run.proofs.states.widths.Given as goal

abbrev pub invariant-loop-register : goal.invariant-loop-register
invariant-loop-register l = l.widths ++ map width_in (drop l.register-index l.registers) ≡ map width_in l.registers
