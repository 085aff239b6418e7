use Rattle.std.proofs.Common.{arith, sym, ◌∙◌}
use Rattle.sail_syntax.specs.View.{program_of}
use Rattle.machine_run.specs.Program.{machine_of}
use Rattle.machine_run.proofs.Left.{begun_next, run_left}
use Rattle.machine_run.proofs.Runs.{rest_next, ends_at_exit}
use Rattle.machine_run.proofs.machine.run.Goals as goal

pub returns-in-Some-clause-ran : goal.returns-in-Some-clause-ran
returns-in-Some-clause-ran c =
    ends_at_exit (machine_of (program_of c.args.typed.now)) _ _ _ _ _ _ _ _ (let h = c.loop-done-test.true in omega (arith, h)) c.loop-done.invariant.rest c.in-Value.ensures.done (sym c.exit_of.ensures ∙ c.in-Some.is)

pub loop-done-preserved : goal.loop-done-preserved
loop-done-preserved c = record {
  widths = c.step.ensures.widths ∙ c.loop-done.invariant.widths;
  rest = rest_next (machine_of (program_of c.args.typed.now)) _ _ _ _ _ _ _ (let h = c.loop-done-test.true in omega (arith, h)) c.loop-done.invariant.rest c.in-Value.ensures.done (sym c.exit_of.ensures ∙ c.in_default.is);
  begun = begun_next (machine_of (program_of c.args.typed.now)) c.args.devs.now.ranges c.args.exits.now c.loop-done.done c.args.world.now c.loop-done.world c.step.new.world c.loop-done.invariant.begun
      c.in-Value.ensures.done (sym c.exit_of.ensures ∙ c.in_default.is);
}

pub returns-in-NoMemory-clause-left : goal.returns-in-NoMemory-clause-left
returns-in-NoMemory-clause-left c =
    let inside = c.loop-done-test.true in
    run_left (program_of c.args.typed.now) c.args.devs.now.ranges c.args.exits.now c.args.n c.loop-done.done c.args.world.now c.loop-done.world c.step.new.world (omega (arith, inside))
    c.loop-done.invariant.begun c.in-NoMemory.ensures.passed
