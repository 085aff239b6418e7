use Rattle.std.proofs.Common.{◌≡◌, ◌++◌, drop}
use Rattle.sail_text.specs.Parts.{more_types_text}
use Rattle.sail_part_print.proofs.types.put_more_types.Given as goal

-- what is written, and the text of what is left, are the whole
abbrev pub invariant-loop-ty : goal.invariant-loop-ty
invariant-loop-ty l = l.out.items ++ more_types_text (drop l.ty-index l.types) ≡ l.fn.out.items ++ more_types_text l.types
