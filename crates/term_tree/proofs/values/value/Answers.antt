use Rattle.term_tree.specs.Written.{pairs_of}
use Rattle.term_tree.proofs.PairLemmas.{values_are}
use Rattle.term_tree.proofs.values.value.Goals as goal

pub value_in-requires-clause-values : goal.value_in-requires-clause-values
value_in-requires-clause-values c = values_are (pairs_of c.args.at.now) c.requires.values
