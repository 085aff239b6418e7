use Rattle.std.proofs.Common.{◌≡◌, drop}
use Rattle.type_rules.specs.Judge.{entered_parts}
use Rattle.type_steps.specs.Grown.{Grown}
use Rattle.type_steps.proofs.patterns.enter_parts.Given as goal

abbrev pub invariant-loop-part : goal.invariant-loop-part
invariant-loop-part l = record { entered : entered_parts (drop l.part-index l.parts) l.locals ≡ entered_parts l.parts l.fn.locals; grown : Grown l.fn.locals l.locals }
