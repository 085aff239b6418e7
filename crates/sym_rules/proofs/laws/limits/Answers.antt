use Rattle.sym_rules.proofs.CountLemmas.{answers_the_trace, refuses_the_rest}
use Rattle.sym_rules.proofs.laws.limits.Goals as goal

pub returns : goal.returns
returns c = record { answers = answers_the_trace; refuses = refuses_the_rest }
