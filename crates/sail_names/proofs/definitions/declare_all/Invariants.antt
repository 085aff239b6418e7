use Rattle.std.proofs.Common.{◌≡◌, ◌≤◌, drop}
use Rattle.std.specs.Prelude.{map}
use Rattle.sail_syntax.specs.Tree.{Text}
use Rattle.sail_syntax.specs.View.{definition_of}
use Rattle.sail_names.specs.Things.{things_from}
use Rattle.sail_names.specs.Map.{reached}
use Rattle.sail_names.proofs.definitions.declare_all.Given as goal

abbrev pub invariant-loop-place : goal.invariant-loop-place
invariant-loop-place l =
    (l.registers ≤ l.place) × (l.enums ≤ l.place)
    × ((x : Text) → reached x l.things (things_from (map definition_of (drop l.place l.defs)) l.registers l.enums l.place)
    ≡ reached x l.initial.things (things_from (map definition_of l.defs) 0 0 0))
