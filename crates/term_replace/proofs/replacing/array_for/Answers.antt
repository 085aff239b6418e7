use Rattle.term_tree.specs.Terms.{IsArrayTerm}
use Rattle.term_replace.specs.Replaced.{named_array}
use Rattle.term_replace.proofs.ReplacedLemmas.{item_has}
use Rattle.term_replace.proofs.replacing.array_for.Goals as goal

pub returns-then-is-clause-term : goal.returns-then-is-clause-term
returns-then-is-clause-term c =
    item_has named_array (λ p. IsArrayTerm p.1) c.args.arrays.now c.loop-pair.pair-index c.pair-item.result c.pair-item.is c.loop-pair-test.true c.requires.terms
