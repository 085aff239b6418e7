use Rattle.std.proofs.Common.{subst}
use Rattle.state_core.specs.Memory.{logged, load}
use Rattle.state_core.specs.World.{World, world_of}
use Rattle.state_core.specs.declared.kinds.AccessKind.TheVariants as access
use Rattle.eval_rules.specs.Moments.{access_moments}
use Rattle.eval_parts.specs.Worlds.{LeavesPassed}
use Rattle.eval_parts.proofs.Passing.{access_passed, given_passed}
use Rattle.eval_parts.proofs.world.World.load.Goals.{in-Ok, in-Err}
use Rattle.eval_parts.proofs.world.World.load.Goals as goal

pub returns-clause-passed : goal.returns-clause-passed
returns-clause-passed c =
    let inside = c.self.inside in
    let ranges = c.args.devs.now.ranges in
    let before = world_of inside.state inside.answers inside.log in
    let world = world_of inside.state c.load.new.answers c.load.new.log in
    let got : World → _ = load ranges c.args.addr c.args.bytes in
    subst (λ (w : World). LeavesPassed c.match-load.result world w (access_moments (logged access.Read c.args.addr c.args.bytes w) (got w))) c.self.view_is
    (elim c.match-load.branch [
      | in-Ok w ↦ given_passed c.match-load.result _ world before (access_moments (logged access.Read c.args.addr c.args.bytes before) (got before)) w.result-is
      | in-Err w ↦ access_passed c.match-load.result c.load.result w.in-Err.stop w.stop_at.result c.args.at access.Read c.args.addr c.args.bytes before world (got before) w.result-is w.stop_at.ensures w.in-Err.is c.load.ensures.moment
    ])
