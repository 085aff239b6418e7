use Rattle.term_make.proofs.NormalLemmas.{made_is_normal, normal_made}
use Rattle.term_make.proofs.laws.normal_terms.Goals as goal

pub returns : goal.returns
returns c = record { made = made_is_normal; stays = normal_made }
