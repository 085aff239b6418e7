use Rattle.std.proofs.Common.{◌≡◌, ◌≤◌, reverse, take, drop, length, ◌++◌}
use Rattle.sail_values.specs.Slots.{put, has}
use Rattle.sail_values.proofs.slots.Slots.set.Given as goal

abbrev pub invariant-loop-at : goal.invariant-loop-at
invariant-loop-at l = (l.at ≤ length l.self-inside.slots.items) × (l.self-inside.slots.items ≡ l.initial.self-inside.slots.items)
    × (has l.name (reverse l.self-inside.slots.items) ≡ has l.name (reverse (take l.at l.self-inside.slots.items)))
    × (put l.name l.local (reverse l.self-inside.slots.items) ≡ reverse (drop l.at l.self-inside.slots.items) ++ put l.name l.local (reverse (take l.at l.self-inside.slots.items)))

abbrev pub decreases-loop-at : goal.decreases-loop-at
decreases-loop-at l = l.at
