-- What holds of each variable of an application holds of each variable of what is made of it.
use Rattle.std.proofs.Common.{◌≡◌, ℕ, None}
use Rattle.std.specs.Prelude.{⊤}
use Rattle.term_tree.specs.Terms.{Text, Tree, lit, var, one, two, three, sel}
use Rattle.term_tree.specs.Variables.{HasVariables}
use Rattle.term_rules.specs.Rules.{rule_of}
use Rattle.term_make.specs.Making.{make}
use Rattle.term_make.proofs.KeptLemmas.{HasParts, IsOfParts, make_has}

module _ (V : Text → ℕ → Type 0) (A : Text → Type 0) where
  abbrev Has : Tree → Type 0
  Has t = HasVariables V A t

  stays : (t : Tree) → rule_of t ≡ None → HasParts Has (λ op. ⊤) t → Has t
  stays (lit b) e h = tt
  stays (var x w) e h = h
  stays (one op a) e h = h.1
  stays (two op a b) e h = (h.1, h.2)
  stays (three op a b c) e h = (h.1, h.2, h.3)
  stays (sel f i) e h = h

  variables_of_parts : IsOfParts Has (λ op. ⊤)
  variables_of_parts = record {
    literals = λ b. tt;
    add = tt;
    sub = tt;
    extract = λ hi lo. tt;
    opposites = λ op p e. tt;
    of_one = λ op a h. h;
    of_two = λ op a b h. h;
    stays = stays;
  }

  has_parts : (t : Tree) → Has t → HasParts Has (λ op. ⊤) t
  has_parts (lit b) h = tt
  has_parts (var x w) h = h
  has_parts (one op a) h = (tt, h)
  has_parts (two op a b) h = (tt, h.0, h.1)
  has_parts (three op a b c) h = (tt, h.0, h.1, h.2)
  has_parts (sel f i) h = h

  pub make_variables : (t : Tree) → Has t → Has (make t).it
  make_variables t h = make_has Has (λ op. ⊤) variables_of_parts t (has_parts t h)
