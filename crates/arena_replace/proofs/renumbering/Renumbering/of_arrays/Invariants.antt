use Rattle.std.proofs.Common.{◌≡◌, ℕ, take}
use Rattle.arena_replace.specs.Renumbering.{number_for, first_array}
use Rattle.arena_replace.proofs.renumbering.Renumbering.of_arrays.Given as goal

abbrev pub invariant-loop-pair : goal.invariant-loop-pair
invariant-loop-pair l = (n : ℕ) → number_for l.renumbering n ≡ first_array (take l.pair-index l.pairs) n
