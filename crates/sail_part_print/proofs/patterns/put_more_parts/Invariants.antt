use Rattle.std.proofs.Common.{◌≡◌, ◌++◌, drop}
use Rattle.sail_text.specs.Parts.{more_parts_text}
use Rattle.sail_part_print.proofs.patterns.put_more_parts.Given as goal

-- what is written, and the text of what is left, are the whole
abbrev pub invariant-loop-part : goal.invariant-loop-part
invariant-loop-part l = l.out.items ++ more_parts_text (drop l.part-index l.parts) ≡ l.fn.out.items ++ more_parts_text l.parts
