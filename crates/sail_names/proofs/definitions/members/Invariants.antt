use Rattle.std.proofs.Common.{◌≡◌, drop}
use Rattle.sail_syntax.specs.Tree.{Text}
use Rattle.sail_names.specs.Things.{members_from}
use Rattle.sail_names.specs.Map.{reached}
use Rattle.sail_names.proofs.definitions.members.Given as goal

abbrev pub invariant-loop-index : goal.invariant-loop-index
invariant-loop-index l =
    (x : Text) → reached x l.things (members_from l.of l.index (drop l.index l.members)) ≡ reached x l.initial.things (members_from l.of 0 l.members)
