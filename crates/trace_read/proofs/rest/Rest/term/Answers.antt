use Rattle.std.proofs.Common.{◌≡◌, sym, subst}
use Rattle.lex_core.specs.Want.{Unless}
use Rattle.trace_read.specs.Readers.{is_want}
use Rattle.trace_read.proofs.RestLemmas.{term_given, term_stops}
use Rattle.trace_read.proofs.rest.Rest.term.Goals as goal

pub returns-in-Ok-clause-exact : goal.returns-in-Ok-clause-exact
returns-in-Ok-clause-exact c = term_given c.args.self.text.now c.args.self.tokens.now c.args.self.next c.in-Ok.found.next c.args.scope.now _ c.in-Ok.ensures.exact

pub returns-in-Err-clause-exact : goal.returns-in-Err-clause-exact
returns-in-Err-clause-exact c = rw c.of_term.ensures (term_stops c.args.self.text.now c.args.self.tokens.now c.args.self.next c.args.scope.now c.in-Err.fault c.in-Err.ensures.exact)
