use Rattle.state_core.proofs.bytes.+number.Given as goal

abbrev pub decreases-number : goal.decreases-number
decreases-number l = l.count
