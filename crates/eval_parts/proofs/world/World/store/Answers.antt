use Rattle.std.proofs.Common.{◌∙◌, ap, subst}
use Rattle.state_core.specs.State.{widths_of}
use Rattle.state_core.specs.Memory.{logged, store}
use Rattle.state_core.specs.World.{World, world_of}
use Rattle.state_core.specs.declared.kinds.AccessKind.TheVariants as access
use Rattle.eval_rules.specs.Moments.{access_moments}
use Rattle.eval_parts.specs.Worlds.{LeavesPassed}
use Rattle.eval_parts.proofs.Passing.{access_passed, given_passed}
use Rattle.eval_parts.proofs.world.World.store.Goals.{in-Ok, in-Err}
use Rattle.eval_parts.proofs.Written.{store_widths}
use Rattle.eval_parts.proofs.world.World.store.Goals as goal

pub returns-clause-widths : goal.returns-clause-widths
returns-clause-widths c =
    let inside = c.self.inside in
    store_widths c.store.result c.args.devs.now.ranges c.args.addr c.args.bytes c.args.value (world_of inside.state inside.answers inside.log)
    (world_of c.store.new.state inside.answers c.store.new.log) (c.store.ensures.value inside.answers) (c.store.ensures.moment inside.answers)
    ∙ ap (λ w. widths_of w.state) c.self.view_is

pub returns-clause-passed : goal.returns-clause-passed
returns-clause-passed c =
    let inside = c.self.inside in
    let ranges = c.args.devs.now.ranges in
    let before = world_of inside.state inside.answers inside.log in
    let world = world_of c.store.new.state inside.answers c.store.new.log in
    let got : World → _ = store ranges c.args.addr c.args.bytes c.args.value in
    subst (λ (w : World). LeavesPassed c.match-store.result world w (access_moments (logged access.Write c.args.addr c.args.bytes w) (got w))) c.self.view_is
    (elim c.match-store.branch [
      | in-Ok w ↦ given_passed c.match-store.result _ world before (access_moments (logged access.Write c.args.addr c.args.bytes before) (got before)) w.result-is
      | in-Err w ↦ access_passed c.match-store.result c.store.result w.in-Err.stop w.stop_at.result c.args.at access.Write c.args.addr c.args.bytes before world (got before) w.result-is w.stop_at.ensures w.in-Err.is (c.store.ensures.moment inside.answers)
    ])
