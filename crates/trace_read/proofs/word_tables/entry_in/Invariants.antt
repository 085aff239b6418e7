use Rattle.std.proofs.Common.{◌≡◌, map, drop}
use Rattle.trace_read.specs.WordTables as spec
use Rattle.trace_read.proofs.word_tables.entry_in.Given as goal

-- the word is looked for in what is left
abbrev pub invariant-loop-own : goal.invariant-loop-own
invariant-loop-own g l = spec.entry_in (map (λ p. (p.0.now, p.1)) (drop l.own-index l.entries)) l.word ≡ spec.entry_in (map (λ p. (p.0.now, p.1)) l.entries) l.word
