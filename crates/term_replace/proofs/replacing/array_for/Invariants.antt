use Rattle.std.proofs.Common.{◌≡◌, map, drop}
use Rattle.std.specs.Prelude.{find, bytes_eq}
use Rattle.term_replace.specs.Replaced.{named_array}
use Rattle.term_replace.proofs.replacing.array_for.Given as goal

abbrev pub invariant-loop-pair : goal.invariant-loop-pair
invariant-loop-pair l = find (λ p. bytes_eq p.0 l.name) (map named_array (drop l.pair-index l.arrays)) ≡ find (λ p. bytes_eq p.0 l.name) (map named_array l.arrays)
