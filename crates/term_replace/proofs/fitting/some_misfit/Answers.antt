use Rattle.term_tree.specs.Terms.{IsTyped}
use Rattle.term_replace.specs.Replaced.{named_tree}
use Rattle.term_replace.proofs.ReplacedLemmas.{item_has}
use Rattle.term_replace.proofs.fitting.some_misfit.Goals as goal

pub width-requires : goal.width-requires
width-requires c =
    record { typed = item_has named_tree (λ p. IsTyped p.1) c.args.bits.now c.loop-pair.pair-index c.pair-item.result c.pair-item.is c.loop-pair-test.true c.requires.typed }
