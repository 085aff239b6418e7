use Rattle.std.proofs.Common.{◌+◌, ◌*◌}
use Rattle.reader_cases.proofs.expressions.+told.Given as goal

abbrev pub decreases-expression : goal.decreases-expression
decreases-expression l = 3 * l.depth

abbrev pub decreases-parts : goal.decreases-parts
decreases-parts l = 3 * l.depth + 2

abbrev pub decreases-all : goal.decreases-all
decreases-all l = 3 * l.depth + 1

abbrev pub decreases-choice : goal.decreases-choice
decreases-choice l = 3 * l.depth + 1

abbrev pub decreases-arms : goal.decreases-arms
decreases-arms l = 3 * l.depth + 1

abbrev pub decreases-steps : goal.decreases-steps
decreases-steps l = 3 * l.depth + 1
