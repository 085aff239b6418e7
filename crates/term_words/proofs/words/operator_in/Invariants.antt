use Rattle.std.proofs.Common.{◌≡◌, map, drop}
use Rattle.term_words.specs.Operators.{operator_in}
use Rattle.term_words.proofs.words.operator_in.Given as goal

-- the operator is looked for in what is left
abbrev pub invariant-loop-own : goal.invariant-loop-own
invariant-loop-own l = operator_in (map (λ p. (p.0.now, p.1)) (drop l.own-index l.operators)) l.word ≡ operator_in (map (λ p. (p.0.now, p.1)) l.operators) l.word
