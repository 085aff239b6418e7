use Rattle.std.proofs.Common.{◌≡◌, [], drop}
use Rattle.term_replace.specs.Replacing.{replaced_var}
use Rattle.term_replace.specs.Replaced.{replacements}
use Rattle.term_replace.proofs.replacing.term_for.Given as goal

abbrev pub invariant-loop-pair : goal.invariant-loop-pair
invariant-loop-pair l = replaced_var (replacements (drop l.pair-index l.bits) []) l.name l.width ≡ replaced_var (replacements l.bits []) l.name l.width
