use Rattle.std.proofs.Common.{map}
use Rattle.term_tree.specs.Terms.{applied}
use Rattle.term_tree.specs.View.{tree}
use Rattle.term_make.proofs.SizeLemmas.{work}
use Rattle.term_make.proofs.making.+made.Given as goal

abbrev pub decreases-made : goal.decreases-made
decreases-made l = work (applied l.op (map tree l.args))
