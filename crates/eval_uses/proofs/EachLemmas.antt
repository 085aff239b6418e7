-- A law of what the moments tell is so of each evaluation.
use Rattle.state_core.specs.World.{World}
use Rattle.sail_values.specs.declared.value.Value.{Value}
use Rattle.std.proofs.Common.{List}
use Rattle.eval_rules.specs.Flow.{Out}
use Rattle.eval_rules.specs.Moments.{Moment}
use Rattle.eval_uses.specs.UseLaws.{Law, OfEach, LeavesOthers, EndsAlike, DoesAlike, IsQuiet, ReachesPassed}
use Rattle.eval_uses.proofs.Told.{Told}
use Rattle.eval_uses.proofs.Trees.{told_eval, told_calls, told_call}
use Rattle.eval_uses.proofs.QuietEnds.{told_quiet}

of_each : (law : Law) → ((run : World → Out Value) (ms : World → List Moment) → Told run ms → law run ms) → OfEach law
of_each law by = record {
  expressions = λ here ds t l. by _ _ (told_eval here ds t l);
  calls = λ here ds i vs l. by _ _ (told_calls here ds i vs l);
  names = λ defs ranges f at vs. by _ _ (told_call defs ranges f at vs);
}

pub each_kept : OfEach LeavesOthers
each_kept = of_each LeavesOthers (λ run ms t. t.keeps)

pub each_ends : OfEach EndsAlike
each_ends = of_each EndsAlike (λ run ms t w v a. (t.pairs w v a).ends)

pub each_does : OfEach DoesAlike
each_does = of_each DoesAlike (λ run ms t w v a. (t.pairs w v a).same)

pub each_quiet : OfEach IsQuiet
each_quiet = of_each IsQuiet told_quiet

pub each_passed : OfEach ReachesPassed
each_passed = of_each ReachesPassed (λ run ms t. t.passed)
