use Rattle.std.proofs.Common.{◌+◌, ◌*◌, max}
use Rattle.arena_replace.proofs.replacing_arrays.+replacing_arrays.Given as goal

abbrev pub decreases-replaced_array : goal.decreases-replaced_array
decreases-replaced_array l = 3 * l.array.number + 2

abbrev pub decreases-remade_array : goal.decreases-remade_array
decreases-remade_array l = 3 * l.array.number + 1

abbrev pub decreases-remade_updated : goal.decreases-remade_updated
decreases-remade_updated l = 3 * l.of.number + 3

abbrev pub decreases-remade_spliced : goal.decreases-remade_spliced
decreases-remade_spliced l = 3 * max l.of.number l.below.number + 3
