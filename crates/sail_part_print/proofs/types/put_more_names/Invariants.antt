use Rattle.std.proofs.Common.{◌≡◌, ◌++◌, drop}
use Rattle.sail_text.specs.Parts.{more_names_text}
use Rattle.sail_part_print.proofs.types.put_more_names.Given as goal

-- what is written, and the text of what is left, are the whole
abbrev pub invariant-loop-name : goal.invariant-loop-name
invariant-loop-name l = l.out.items ++ more_names_text (drop l.name-index l.names) ≡ l.fn.out.items ++ more_names_text l.names
