use Rattle.trace_plain.proofs.FollowLemmas.{follows_once}
use Rattle.trace_plain.proofs.ListLemmas.{follows_list}
use Rattle.trace_plain.proofs.laws.following.Goals as goal

pub returns : goal.returns
returns c = record { once = follows_once; list = follows_list }
