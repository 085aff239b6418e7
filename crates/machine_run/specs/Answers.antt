-- What runs answer.
use Rattle.std.specs.Prelude.{◌≡◌, ◌≤◌, ℕ}
use Rattle.state_core.specs.World.{World}
use Rattle.machine_run.specs.declared.machine.Stop.{Stop}
use Rattle.machine_run.specs.declared.machine.Stop.TheVariants as stop
use Rattle.machine_run.specs.Machine.{Ran, at_count, at_exit, at_fault, at_answer}
use Rattle.machine_run.specs.Machine as spec

-- so many whole steps, this stop and this world are those of the run
pub record Comes (done : ℕ) (why : spec.Stop) (world : World) (ran : Ran) : Type 0 where
  pub done_is : done ≡ ran.done
  pub stop_is : ran.stop ≡ why
  pub world_is : ran.world ≡ world

-- the whole steps, the stop and the world are those of the run; want of memory is free, behind whole steps of the run
abbrev pub IsRan : ℕ → Stop → World → Ran → Type 0
IsRan done stop.Count world ran = Comes done at_count world ran
IsRan done (stop.Exit index) world ran = Comes done (at_exit index) world ran
IsRan done (stop.Fault kind at) world ran = Comes done (at_fault kind at) world ran
IsRan done stop.NoAnswer world ran = Comes done at_answer world ran
IsRan done stop.NoMemory world ran = done ≤ ran.done
