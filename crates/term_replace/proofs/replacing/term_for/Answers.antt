use Rattle.std.proofs.Common.{ap, ◌∙◌}
use Rattle.term_tree.specs.Terms.{var, IsTyped}
use Rattle.term_replace.specs.Replaced.{named_tree}
use Rattle.term_tree.proofs.ViewLemmas.{tree_var}
use Rattle.term_replace.proofs.ReplacedLemmas.{item_has, none_left}
use Rattle.term_replace.proofs.replacing.term_for.Goals as goal

pub copy-requires : goal.copy-requires
copy-requires c =
    record { typed = item_has named_tree (λ p. IsTyped p.1) c.args.bits.now c.loop-pair.pair-index c.pair-item.result c.pair-item.is c.loop-pair-test.true c.requires.typed }

pub returns : goal.returns
returns c =
    record { term = tree_var c.in_ok-copy.field-0 c.args.width ∙ ap (λ x. var x c.args.width) c.in_ok-copy.ensures ∙ none_left c.args.bits.now c.loop-pair.pair-index c.args.name.now c.args.width c.loop-pair-test.false ∙ c.loop-pair.invariant }
