use Rattle.std.proofs.Common.{ap, arith}
use Rattle.term_arena.specs.Nodes.{as_term, as_array}
use Rattle.term_arena.proofs.MeaningLemmas.{keeps_itself, keeps_trans}
use Rattle.term_arena.proofs.laws.kept_numbers.Goals as goal

pub returns : goal.returns
returns c = record {
  itself = keeps_itself;
  onward = keeps_trans;
  below = λ old new i k lt. omega (arith, k.longer, lt);
  terms = λ old new i k lt. ap as_term (k.same i lt);
  arrays = λ old new i k lt. ap as_array (k.same i lt);
}
