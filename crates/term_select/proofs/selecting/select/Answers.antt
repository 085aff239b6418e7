use Rattle.term_tree.specs.View.{tree, array_tree}
use Rattle.term_select.proofs.SelectLemmas.{selected_value}
use Rattle.term_select.proofs.selecting.select.Goals as goal

pub returns-clause-value : goal.returns-clause-value
returns-clause-value c =
    selected_value (array_tree c.args.of.now) (tree c.args.at.now) c.selected.result c.requires.array.typed c.requires.index c.selected.ensures.answer
