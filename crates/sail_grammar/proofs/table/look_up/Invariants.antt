use Rattle.std.proofs.Common.{◌≡◌, map, drop}
use Rattle.sail_grammar.specs.Words.{looked_up}
use Rattle.sail_grammar.proofs.table.look_up.Given as goal

-- it is none of the texts before
abbrev pub invariant-loop-own : goal.invariant-loop-own
invariant-loop-own g l = looked_up (map (λ p. (p.0.now, p.1)) (drop l.own-index l.table)) l.text ≡ looked_up (map (λ p. (p.0.now, p.1)) l.table) l.text
