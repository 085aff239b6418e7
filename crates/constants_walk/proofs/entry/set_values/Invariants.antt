use Rattle.std.proofs.Common.{◌≡◌, map, drop, All}
use Rattle.state_core.specs.State.{widths_of}
use Rattle.constants_walk.specs.RegisterPlaces.{pair_of}
use Rattle.constants_walk.specs.Entry as spec
use Rattle.constants_walk.proofs.entry.set_values.Given as goal

abbrev pub invariant-loop-value : goal.invariant-loop-value
invariant-loop-value l = record {
  widths : widths_of l.state ≡ widths_of l.fn.state;
  memory : l.state.memory ≡ l.fn.state.memory;
  fit : All (spec.Fits (widths_of l.state)) (map pair_of (drop l.value-index l.values));
  rest : spec.with_values (map pair_of (drop l.value-index l.values)) l.state.registers ≡ spec.with_values (map pair_of l.values) l.fn.state.registers;
}
