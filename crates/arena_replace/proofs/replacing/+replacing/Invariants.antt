use Rattle.std.proofs.Common.{◌+◌, ◌*◌, max}
use Rattle.arena_replace.proofs.replacing.+replacing.Given as goal

abbrev pub decreases-replaced : goal.decreases-replaced
decreases-replaced l = 3 * l.term.number + 2

abbrev pub decreases-remade : goal.decreases-remade
decreases-remade l = 3 * l.term.number + 1

abbrev pub decreases-remade_two : goal.decreases-remade_two
decreases-remade_two l = 3 * max l.a.number l.b.number + 3

abbrev pub decreases-remade_three : goal.decreases-remade_three
decreases-remade_three l = 3 * max l.a.number (max l.b.number l.c.number) + 3
