use Rattle.std.proofs.Common.{◌≡◌, ◌++◌, drop}
use Rattle.std.specs.List.{flat_map}
use Rattle.constants_text.specs.Texts.{exit_line}
use Rattle.constants_text.proofs.texts.append_exits.Given as goal

abbrev pub invariant-loop-exit : goal.invariant-loop-exit
invariant-loop-exit l = l.text.items ++ flat_map exit_line (drop l.exit-index l.exits) ≡ l.fn.text.items ++ flat_map exit_line l.exits
