use Rattle.std.proofs.Common.{◌+◌, length}
use Rattle.assert_core.proofs.sorts.+names_apart.Given as goal

abbrev pub decreases-names_apart : goal.decreases-names_apart
decreases-names_apart l = length l.fixed.now + length l.own.now
