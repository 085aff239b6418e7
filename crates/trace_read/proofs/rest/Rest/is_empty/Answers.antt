use Rattle.trace_read.proofs.RestLemmas.{is_end}
use Rattle.trace_read.proofs.rest.Rest.is_empty.Goals as goal

pub returns : goal.returns
returns c = is_end c.args.self.text.now c.args.self.tokens.now c.args.self.next c.args.self.within
