use Rattle.std.proofs.Common.{sym, ap, ◌∙◌}
use Rattle.constants_walk.specs.Conditions.{covers}
use Rattle.constants_walk.proofs.Covering.{covered}
use Rattle.constants_walk.proofs.conditions.constants.Goals as goal

pub returns-clause-full : goal.returns-clause-full
returns-clause-full c =
    covered c.args.registers c.args.pc c.args.entry (ap (covers c.args.registers c.args.pc) (sym c.as_slice.ensures) ∙ sym c.covers.ensures ∙ c.if-not-covers.false)
