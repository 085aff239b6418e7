use Rattle.std.proofs.Common.{◌≡◌, map, drop}
use Rattle.constants_walk.specs.RegisterPlaces.{pair_of}
use Rattle.constants_walk.specs.RunForm as spec
use Rattle.constants_walk.proofs.run_form.has_values.Given as goal

abbrev pub invariant-loop-value : goal.invariant-loop-value
invariant-loop-value l = spec.has_values l.state (map pair_of (drop l.value-index l.values)) ≡ spec.has_values l.state (map pair_of l.values)
