use Rattle.std.proofs.Common.{◌≡◌, arith}
use Rattle.std.proofs.lemmas.Grind.{common_steps}
use Rattle.sail_syntax.specs.View.{program_of}
use Rattle.trace_words.specs.Trace.{trace_said}
use Rattle.trace_answer.specs.Fits.{words_fit}
use Rattle.trace_answer.proofs.FitsLemmas.{answer_fits}
use Rattle.trace_answer.proofs.fitting.words_fit.Goals as goal

pub returns-then-is_fetched-clause-fits : goal.returns-then-is_fetched-clause-fits
returns-then-is_fetched-clause-fits c =
    let exact : c.givens_fit.result ≡ words_fit (program_of c.args.program.now) (trace_said c.args.words.now) = grind (arith, common_steps) in
    answer_fits c.givens_fit.result (program_of c.args.program.now) (trace_said c.args.words.now) exact
