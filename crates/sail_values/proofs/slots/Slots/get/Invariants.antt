use Rattle.std.proofs.Common.{◌≡◌, ◌≤◌, reverse, take, length}
use Rattle.sail_values.specs.Slots.{look}
use Rattle.sail_values.proofs.slots.Slots.get.Given as goal

abbrev pub invariant-loop-at : goal.invariant-loop-at
invariant-loop-at l = (l.at ≤ length l.self-inside.slots.items) × (look l.name l.self ≡ look l.name (reverse (take l.at l.self-inside.slots.items)))

abbrev pub decreases-loop-at : goal.decreases-loop-at
decreases-loop-at l = l.at
