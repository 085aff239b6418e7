use Rattle.std.proofs.Common.{◌≡◌, map, drop}
use Rattle.std.specs.List.{list_any}
use Rattle.device_spec.specs.Checked.{overlaps}
use Rattle.device_spec.specs.View.{device_of}
use Rattle.device_spec.proofs.check.overlaps_any.Given as goal

-- one that overlaps is looked for in what is left
abbrev pub invariant-loop-other : goal.invariant-loop-other
invariant-loop-other l = list_any (overlaps (device_of l.dev)) (map device_of (drop l.other-index l.earlier)) ≡ list_any (overlaps (device_of l.dev)) (map device_of l.earlier)
