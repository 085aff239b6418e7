use Rattle.constants_check.proofs.Failures.{failing, fails_at}
use Rattle.constants_check.proofs.laws.failures_are_told.Goals as goal

pub returns : goal.returns
returns c = record {
  text = λ defs memory p k room at e w constants_are is. failing defs memory p k constants_are room at e w is;
  named = fails_at;
}
