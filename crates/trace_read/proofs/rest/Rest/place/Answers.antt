use Rattle.std.proofs.Common.{sym, length, arith}
use Rattle.trace_read.proofs.RestLemmas.{place_here}
use Rattle.trace_read.proofs.rest.Rest.place.Goals as goal

pub returns-else-self : goal.returns-else-self
returns-else-self c = sym (place_here c.args.self.text.now c.args.self.tokens.now c.args.self.next (length c.args.self.text.now) _ (omega arith))
