use Rattle.trace_read.proofs.RuleLemmas.{spelled_by_rules}
use Rattle.trace_read.proofs.laws.spelled_is_by_the_rules.Goals as goal

pub returns : goal.returns
returns c = spelled_by_rules
