use Rattle.std.proofs.Common.{◌≡◌, ◌++◌, drop}
use Rattle.sail_text.specs.Parts.{more_params_text}
use Rattle.sail_part_print.proofs.types.put_more_params.Given as goal

-- what is written, and the text of what is left, are the whole
abbrev pub invariant-loop-param : goal.invariant-loop-param
invariant-loop-param l = l.out.items ++ more_params_text (drop l.param-index l.params) ≡ l.fn.out.items ++ more_params_text l.params
