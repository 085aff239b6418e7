use Rattle.trace_read.specs.Gathering.{opens_of}
use Rattle.trace_read.specs.Readers.{IsPath}
use Rattle.trace_read.proofs.CloseLemmas.{event_path}
use Rattle.trace_read.proofs.stack.take_line.Goals as goal

pub returns-in-Event-clause-path : goal.returns-in-Event-clause-path
returns-in-Event-clause-path c = event_path c.event.result c.args.scope.now c.event.new.scope (opens_of c.args.stack.now) (IsPath c.event.new.scope) c.requires.nest c.event.ensures.path
