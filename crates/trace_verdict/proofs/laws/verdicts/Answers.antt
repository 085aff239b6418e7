use Rattle.trace_verdict.proofs.Statuses.{told_of_each}
use Rattle.trace_verdict.proofs.laws.verdicts.Goals as goal

pub returns : goal.returns
returns c = record { told = told_of_each }
