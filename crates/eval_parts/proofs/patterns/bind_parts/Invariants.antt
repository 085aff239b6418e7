use Rattle.std.proofs.Common.{◌≡◌, drop}
use Rattle.eval_rules.specs.Parts.{parts_bound}
use Rattle.eval_parts.proofs.patterns.bind_parts.Given as goal

abbrev pub invariant-loop-part : goal.invariant-loop-part
invariant-loop-part l = parts_bound (drop l.part-index l.parts) l.left l.value l.locals ≡ parts_bound l.parts l.initial.left l.value l.initial.locals
