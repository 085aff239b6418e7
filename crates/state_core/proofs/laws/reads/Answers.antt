use Rattle.state_core.proofs.Reached.{fetch_is_read, load_is_read}
use Rattle.state_core.proofs.laws.reads.Goals as goal

pub returns-clause-fetches : goal.returns-clause-fetches
returns-clause-fetches c = λ ranges at n w. fetch_is_read ranges at n w

pub returns-clause-loads : goal.returns-clause-loads
returns-clause-loads c = λ ranges at n w. load_is_read ranges at n w
