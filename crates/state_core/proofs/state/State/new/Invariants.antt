use Rattle.std.proofs.Common.{◌≡◌, ◌++◌, map, drop}
use Rattle.std.specs.Prelude.{All}
use Rattle.bv_bits.specs.Bits.{IsBits}
use Rattle.state_core.specs.State.{zero_of}
use Rattle.state_core.proofs.state.State.new.Given as goal

-- those so far, and then zeros of the widths that are left
abbrev pub invariant-loop-width : goal.invariant-loop-width
invariant-loop-width l = (l.registers ++ map zero_of (drop l.width-index l.widths) ≡ map zero_of l.widths) × All IsBits l.registers
