use Rattle.std.proofs.Common.{sym, subst}
use Rattle.std.specs.Prelude.{Err}
use Rattle.sail_syntax.specs.View.{program_of}
use Rattle.eval_words.specs.Agrees.{EndsPassed, outcome_of}
use Rattle.eval_words.proofs.Ending.{comes_passed}
use Rattle.machine_run.specs.Passed.{word_moments, step_moments}
use Rattle.machine_run.specs.Program.{machine_of}
use Rattle.machine_run.proofs.Left.{ends_passed, step_fetch, step_word}
use Rattle.machine_run.proofs.Steps.{ends_gets, ends_stops}
use Rattle.machine_run.proofs.machine.step.Goals as goal

pub returns-in-Ok-clause-done : goal.returns-in-Ok-clause-done
returns-in-Ok-clause-done c =
    ends_gets (machine_of (program_of c.args.typed.now)) c.args.devs.now.ranges c.args.world.now c.has_short.result c.pc_value-pc.result c.has_short.ensures c.pc_value-pc.ensures
    c.fetch_word.new.world c.execute.new.world c.execute.result c.in-Ok.word c.in-Ok.ensures.value c.execute.ensures.done

pub returns-in-Err-clause-done : goal.returns-in-Err-clause-done
returns-in-Err-clause-done c =
    ends_stops (machine_of (program_of c.args.typed.now)) c.args.devs.now.ranges c.args.world.now c.has_short.result c.pc_value-pc.result c.has_short.ensures c.pc_value-pc.ensures
    c.fetch_word.new.world c.instr_place.result c.in-Err.stop c.outcome_of.result c.instr_place.ensures c.outcome_of.ensures c.in-Err.ensures.value

pub returns-in-Ok-clause-passed : goal.returns-in-Ok-clause-passed
returns-in-Ok-clause-passed c =
    ends_passed c.execute.result c.execute.new.world
    (step_word (program_of c.args.typed.now) c.args.devs.now.ranges c.args.world.now c.has_short.result c.pc_value-pc.result c.has_short.ensures c.pc_value-pc.ensures c.fetch_word.new.world c.in-Ok.word
    c.in-Ok.ensures.value) c.execute.ensures.passed

pub returns-in-Err-clause-passed : goal.returns-in-Err-clause-passed
returns-in-Err-clause-passed c =
    let defs = program_of c.args.typed.now in
    let ranges = c.args.devs.now.ranges in
    let w = c.args.world.now in
    let x = c.fetch_word.new.world in
    subst (λ o. EndsPassed o x w (step_moments defs ranges w)) (sym c.outcome_of.ensures)
    (ends_passed (outcome_of (Err c.in-Err.stop)) x (step_fetch defs ranges w c.has_short.result c.pc_value-pc.result c.has_short.ensures c.pc_value-pc.ensures)
    (comes_passed (Err c.in-Err.stop) x w (word_moments c.has_short.result ranges c.pc_value-pc.result w) c.in-Err.ensures.passed))
