use Rattle.std.proofs.Common.{◌≡◌, drop}
use Rattle.eval_rules.specs.Parts.{parts_fit}
use Rattle.eval_parts.proofs.patterns.parts_fit.Given as goal

abbrev pub invariant-loop-part : goal.invariant-loop-part
invariant-loop-part l = parts_fit (drop l.part-index l.parts) l.left l.value ≡ parts_fit l.parts l.initial.left l.value
