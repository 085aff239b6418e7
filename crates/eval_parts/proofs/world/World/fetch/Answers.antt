use Rattle.std.proofs.Common.{subst}
use Rattle.state_core.specs.Memory.{logged, fetch}
use Rattle.state_core.specs.World.{World, world_of}
use Rattle.state_core.specs.declared.kinds.AccessKind.TheVariants as access
use Rattle.eval_rules.specs.Moments.{access_moments}
use Rattle.eval_parts.specs.Worlds.{LeavesPassed}
use Rattle.eval_parts.proofs.Passing.{access_passed, given_passed}
use Rattle.eval_parts.proofs.world.World.fetch.Goals.{in-Ok, in-Err}
use Rattle.eval_parts.proofs.world.World.fetch.Goals as goal

pub returns-clause-passed : goal.returns-clause-passed
returns-clause-passed c =
    let inside = c.self.inside in
    let ranges = c.args.devs.now.ranges in
    let before = world_of inside.state inside.answers inside.log in
    let world = world_of inside.state inside.answers c.fetch.new.log in
    let got : World → _ = fetch ranges c.args.addr c.args.bytes in
    subst (λ (w : World). LeavesPassed c.match-fetch.result world w (access_moments (logged access.Fetch c.args.addr c.args.bytes w) (got w))) c.self.view_is
    (elim c.match-fetch.branch [
      | in-Ok w ↦ given_passed c.match-fetch.result _ world before (access_moments (logged access.Fetch c.args.addr c.args.bytes before) (got before)) w.result-is
      | in-Err w ↦ access_passed c.match-fetch.result c.fetch.result w.in-Err.stop w.stop_at.result c.args.at access.Fetch c.args.addr c.args.bytes before world (got before) w.result-is w.stop_at.ensures w.in-Err.is (c.fetch.ensures.moment inside.answers)
    ])
