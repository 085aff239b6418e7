use Rattle.std.proofs.Common.{sym, subst}
use Rattle.term_make.specs.Making.{IsMade, IsBuilt}
use Rattle.term_make.proofs.SizeLemmas.{make_size}
use Rattle.term_make.proofs.StepLemmas.{make_steps, is_made, built, made_is, built_is, made_results}
use Rattle.term_make.proofs.TypedLemmas.{make_keeps, asked_typed}
use Rattle.term_make.proofs.ValueLemmas.{make_value}
use Rattle.term_make.proofs.laws.made_terms.Goals as goal

pub returns : goal.returns
returns c = record {
  exactly = λ t u. (made_is, λ e. subst (IsMade t) (sym e) (is_made t));
  built = λ r u. (built_is, λ e. subst (IsBuilt r) (sym e) (built r));
  first_rule = make_steps;
  on_the_way = made_results;
  no_larger = make_size;
  typed = make_keeps;
  typed_on_the_way = asked_typed;
  value = make_value;
}
