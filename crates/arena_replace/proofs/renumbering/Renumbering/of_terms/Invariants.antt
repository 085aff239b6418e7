use Rattle.std.proofs.Common.{◌≡◌, ℕ, take}
use Rattle.arena_replace.specs.Renumbering.{number_for, first_term}
use Rattle.arena_replace.proofs.renumbering.Renumbering.of_terms.Given as goal

abbrev pub invariant-loop-pair : goal.invariant-loop-pair
invariant-loop-pair l = (n : ℕ) → number_for l.renumbering n ≡ first_term (take l.pair-index l.pairs) n
