use Rattle.std.proofs.Common.{◌≡◌, ◌||◌, ◌-◌, ◌==◌}
use Rattle.std.specs.List.{list_all, range_with_len}
use Rattle.constants_walk.specs.Conditions.{covers}
use Rattle.constants_walk.specs.RegisterPlaces.{has}
use Rattle.constants_walk.proofs.conditions.covers.Given as goal

-- each of those before it is pc or has a value
abbrev pub invariant-loop-register : goal.invariant-loop-register
invariant-loop-register l =
    list_all (λ k. k == l.pc || has l.values k) (range_with_len l.register (l.registers - l.register)) ≡ covers l.registers l.pc l.values
