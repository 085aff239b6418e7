use Rattle.std.proofs.Common.{◌≡◌, ◌++◌, Some, length}
use Rattle.read_rules.specs.Binding.{◌>>=◌}
use Rattle.proof_form.specs.ProofForm.{items, AreBits}
use Rattle.proof_words.specs.ProofFormReaders.{left}
use Rattle.proof_form.proofs.rules.items.Given as goal

-- those so far, and then those of the rest
abbrev pub invariant-loop-behind : goal.invariant-loop-behind
invariant-loop-behind l =
    record {
      so_far : (items (left l.behind) >>= λ rest. Some (l.values ++ rest)) ≡ items (left l.rest);
      fit : AreBits l.values;
    }

abbrev pub decreases-loop-behind : goal.decreases-loop-behind
decreases-loop-behind l = length (left l.behind)
