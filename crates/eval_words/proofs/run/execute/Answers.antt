use Rattle.std.proofs.Common.{subst}
use Rattle.std.specs.Prelude.{[], ◌∷◌}
use Rattle.sail_syntax.specs.View.{program_of}
use Rattle.eval_rules.specs.Eval.{call_of}
use Rattle.eval_rules.specs.Moments.{moments_of}
use Rattle.eval_words.specs.Agrees.{Comes, EndsPassed}
use Rattle.eval_words.specs.Instr.{instr_of, moments_of_instr, name_of_word, word_value}
use Rattle.eval_words.proofs.Ending.{ends}
use Rattle.eval_words.proofs.run.execute.Goals as goal

pub returns-clause-done : goal.returns-clause-done
unfolding instr_of
returns-clause-done c =
    let defs = program_of c.args.typed.now in
    let ranges = c.args.devs.now.ranges in
    ends c.run.result c.run.new.world (call_of defs ranges (name_of_word c.args.word) 0 (word_value c.args.word ∷ []) c.args.world.now)
    (subst (λ n. Comes c.run.result c.run.new.world (call_of defs ranges n 0 (word_value c.args.word ∷ []) c.args.world.now)) c.name_of_word.ensures
    (subst (λ v. Comes c.run.result c.run.new.world (call_of defs ranges c.name_of_word.result.now 0 (v ∷ []) c.args.world.now)) c.word_value-argument.ensures c.run.ensures.done))

pub returns-clause-passed : goal.returns-clause-passed
unfolding moments_of_instr
returns-clause-passed c =
    let defs = program_of c.args.typed.now in
    let ranges = c.args.devs.now.ranges in
    let start = c.args.world.now in
    subst (λ n. EndsPassed c.run.result c.run.new.world start (moments_of defs ranges n (word_value c.args.word ∷ []) start)) c.name_of_word.ensures
    (subst (λ v. EndsPassed c.run.result c.run.new.world start (moments_of defs ranges c.name_of_word.result.now (v ∷ []) start)) c.word_value-argument.ensures c.run.ensures.passed)
