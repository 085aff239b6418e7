use Rattle.term_rules.proofs.TypedLemmas.{right_typed}
use Rattle.term_rules.proofs.RuleLemmas.{right_value_is}
use Rattle.term_rules.proofs.laws.right_sides.Goals as goal

pub returns : goal.returns
returns c = record {
  typed = right_typed;
  value = right_value_is;
}
