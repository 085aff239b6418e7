use Rattle.std.proofs.Common.{◌+◌, ◌*◌, map}
use Rattle.term_tree.specs.Terms.{applied}
use Rattle.term_rules.specs.Shapes.{right_of}
use Rattle.term_make.proofs.SizeLemmas.{work}
use Rattle.term_arena.specs.Answers.{id_term}
use Rattle.arena_make.proofs.WorkLemmas.{right_work}
use Rattle.arena_make.proofs.making.+making.Given as goal

abbrev pub decreases-make : goal.decreases-make
decreases-make l = 2 * work (applied l.op (map (id_term l.terms.now) l.args.now)) + 1

abbrev pub decreases-build : goal.decreases-build
decreases-build l = 2 * right_work (right_of (id_term l.terms.now) l.right) + 2
