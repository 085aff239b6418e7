use Rattle.std.proofs.Common.{Ok, ap}
use Rattle.sail_machine.specs.Frames.{awaits}
use Rattle.sail_machine.specs.declared.awaited.Await.TheVariants as a
use Rattle.sail_rows.proofs.RowLemmas.{more_arms}
use Rattle.sail_rows.proofs.rows.next_arm.Goals as goal

pub returns : goal.returns
returns c = ap (λ k. Ok (k, awaits a.ArmOrEnd)) (more_arms c.args.stack.now c.push-2.new.self c.args.on c.args.arms c.push.new.self c.args.last c.args.at c.in_ok-push.ensures.ok c.in_ok-push-2.ensures)
