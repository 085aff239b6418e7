-- The run of a specification over constants from the one state that its entry and its code give.
use Rattle.std.specs.Prelude.{ℕ, Bool, ◌&&◌, if◌then◌else◌, nat_eq, List, [], Option, Some}
use Rattle.std.specs.List.{list_all}
use Rattle.std.specs.Option.{option_map}
use Rattle.bv_bits.specs.declared.Bits.{Bits}
use Rattle.state_core.specs.State.{State, register_of}
use Rattle.state_core.specs.World.{World, start}
use Rattle.machine_run.specs.Machine.{Machine, pc_of}
use Rattle.machine_safe.specs.First.{Constants, Walked, left, outside, touches, fails, too_many, walk_from}
use Rattle.constants_walk.specs.Entry.{entry_state}
use Rattle.constants_walk.specs.Failing.{failure_of}
use Rattle.constants_walk.specs.declared.run_form.RunEnd.{RunEnd}
use Rattle.constants_walk.specs.declared.run_form.RunEnd.TheVariants as run_end

-- whether two values are the same
abbrev pub has_bits : Bits → Bits → Bool
has_bits a b = nat_eq a.width b.width && nat_eq a.value b.value

-- whether the registers have these values
abbrev pub has_values : State → List (ℕ × Bits) → Bool
has_values s vs = list_all (λ v. has_bits (register_of s v.0) v.1) vs

-- outside the code: at the exit with its values, or not
abbrev pub left_end : Machine → Constants → State → ℕ → ℕ → RunEnd
left_end m c s count last = if nat_eq (pc_of m s) c.exit_at && has_values s c.exit then run_end.Accepted count else run_end.Wrong last

-- what the end of the walk means; nothing only where an instruction that accesses nothing is cut short by something else than a failure of the text, which
-- doesn't come where the code is there
abbrev pub ended_at : Machine → Constants → Walked → World → Option RunEnd
ended_at m c (left count last) w = Some (left_end m c w.state count last)
ended_at m c (outside pc) w = Some (run_end.Outside pc)
ended_at m c (touches pc) w = Some (run_end.Touches pc)
ended_at m c (fails ended pc) w = option_map (λ why. run_end.Fails why pc) (failure_of ended)
ended_at m c (too_many pc) w = Some (run_end.TooMany pc)

-- how many instructions a run may make
unfoldable pub most_instructions : ℕ
most_instructions = 4096

-- the run
unfoldable pub run_end_of : Machine → Constants → Option RunEnd
run_end_of m c =
    let walked = walk_from m c 0 c.entry_at most_instructions (start (entry_state m c) []) in
    ended_at m c walked.0 walked.1
