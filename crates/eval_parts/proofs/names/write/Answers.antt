use Rattle.std.proofs.Common.{sym, ◌∙◌}
use Rattle.sail_syntax.specs.View.{program_of}
use Rattle.sail_names.specs.Things.{things_of}
use Rattle.eval_parts.proofs.Written.{write_missing}
use Rattle.eval_parts.proofs.names.write.Goals as goal

pub returns-then-not-assign-clause-value : goal.returns-then-not-assign-clause-value
returns-then-not-assign-clause-value c =
    write_missing (things_of (program_of c.args.typed.now)) c.args.name.now c.args.value c.thing.result c.args.locals.now c.assign.new.self c.args.world.now c.put.new.world
    (sym c.assign.ensures.found ∙ c.if-not-assign.true) c.assign.ensures.written c.thing.ensures c.put.ensures.value
