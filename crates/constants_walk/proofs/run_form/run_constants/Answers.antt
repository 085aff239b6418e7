use Rattle.std.proofs.Common.{refl, sym, ap, ◌∙◌, subst, []}
use Rattle.std.specs.FinMap.{empty}
use Rattle.sail_syntax.specs.View.{program_of}
use Rattle.state_core.specs.Claims.{HasBytes}
use Rattle.state_core.specs.State.{State, widths_of}
use Rattle.state_core.specs.World.{World, start}
use Rattle.machine_safe.specs.First.{walk_from}
use Rattle.machine_run.specs.Program.{machine_of}
use Rattle.constants_walk.specs.Conditions.{constants_of}
use Rattle.constants_walk.proofs.EntryState.{bytes_there}
use Rattle.constants_walk.proofs.RunEnds.{run_ends}
use Rattle.constants_walk.proofs.run_form.run_constants.Goals as goal

pub end_of_walk-requires-clause-widths : goal.end_of_walk-requires-clause-widths
end_of_walk-requires-clause-widths c =
    c.walk_on.ensures.widths ∙ ap (λ (w : World). widths_of w.state) c.start-world.ensures ∙ c.in_ok-state.ensures.widths

pub walk_on-requires-clause-there : goal.walk_on-requires-clause-there
walk_on-requires-clause-there c =
    subst (λ (s : State). HasBytes s.memory c.args.given.now.lo c.args.code.now) (sym (ap (λ (w : World). w.state) c.start-world.ensures ∙ c.in_ok-state.ensures.value))
    (bytes_there c.args.code.now empty c.args.given.now.lo)

pub returns : goal.returns
returns c =
    let m = machine_of (program_of c.args.typed.now) in
    let k = constants_of c.args.given.now c.args.code.now in
    run_ends m k c.end_of_walk.result c.start-world.result (c.start-world.ensures ∙ ap (λ s. start s []) c.in_ok-state.ensures.value)
    (c.end_of_walk.ensures k (walk_from m k 0 k.entry_at 4096 c.start-world.result) refl refl c.in_ok-walk.ensures.walked)
