use Rattle.sail_verdict.proofs.Statuses.{told_of_each}
use Rattle.sail_verdict.proofs.laws.texts_are_told.Goals as goal

pub returns : goal.returns
returns c = record { told = told_of_each }
