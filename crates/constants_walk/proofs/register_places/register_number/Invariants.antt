use Rattle.std.proofs.Common.{◌≡◌, drop}
use Rattle.std.specs.List.{position_from}
use Rattle.constants_walk.specs.RegisterPlaces.{is_named}
use Rattle.constants_walk.proofs.register_places.register_number.Given as goal

-- none of those before it has the name
abbrev pub invariant-loop-number : goal.invariant-loop-number
invariant-loop-number l =
    position_from (is_named l.name) l.number (drop l.number l.registers) ≡ position_from (is_named l.name) 0 l.registers
