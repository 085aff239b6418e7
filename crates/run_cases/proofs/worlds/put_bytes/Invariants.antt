use Rattle.std.proofs.Common.{◌≡◌}
use Rattle.state_core.specs.State.{widths_of}
use Rattle.run_cases.proofs.worlds.put_bytes.Given as goal

abbrev pub invariant-loop-byte : goal.invariant-loop-byte
invariant-loop-byte l = widths_of l.state ≡ widths_of l.fn.state
