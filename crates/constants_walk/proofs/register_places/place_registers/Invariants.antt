use Rattle.std.proofs.Common.{◌≡◌, ◌++◌, true, drop}
use Rattle.read_rules.specs.Binding.{◌>>=◌}
use Rattle.constants_walk.specs.RegisterPlaces.{place_each, places, if_distinct, are_distinct}
use Rattle.constants_walk.proofs.register_places.place_registers.Given as goal

-- those so far, and then those of the rest; no register comes twice so far
abbrev pub invariant-loop-named : goal.invariant-loop-named
invariant-loop-named l =
    record {
      so_far : (place_each l.registers l.pc (drop l.named-index l.given) >>= λ rest. if_distinct (l.values ++ rest)) ≡ places l.registers l.pc l.given;
      differ : are_distinct l.values ≡ true;
    }
