use Rattle.std.proofs.Common.{map, subst}
use Rattle.term_tree.specs.Terms.{two, applied}
use Rattle.term_make.specs.Making.{make}
use Rattle.term_make.specs.Answers.{Answers}
use Rattle.term_tree.specs.View.{tree}
use Rattle.term_make.proofs.MakeLemmas.{made_width}
use Rattle.term_make.proofs.operators.made_of_two.Goals as goal

pub returns-clause-width : goal.returns-clause-width
returns-clause-width c =
    made_width (two c.args.op (tree c.args.a) (tree c.args.b)) c.make.result c.requires.typed
    (subst (λ xs. Answers tree (make (applied c.args.op (map tree xs))) c.make.result) c.in_ok-list_of_two.ensures.list c.make.ensures.answer)
