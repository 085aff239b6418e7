use Rattle.std.proofs.Common.{◌+◌, ◌*◌, max}
use Rattle.arena_make.proofs.selecting.+selecting.Given as goal

abbrev pub decreases-select : goal.decreases-select
decreases-select l = 2 * l.of.number + 1

abbrev pub decreases-select_updated : goal.decreases-select_updated
decreases-select_updated l = 2 * l.rest.number + 2

abbrev pub decreases-select_spliced : goal.decreases-select_spliced
decreases-select_spliced l = 2 * max l.rest.number l.below.number + 2
