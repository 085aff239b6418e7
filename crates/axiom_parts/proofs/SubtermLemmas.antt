-- The parts of bytes of arrays, by the byte that is found.
use Rattle.std.proofs.Common.{◌≡◌, ℕ, ◌/◌, ◌<◌, Bool, cond, ltb, List, Option, Some, None, ap, sym, ◌∙◌}
use Rattle.std.specs.Prelude.{slice_get, option_and_then}
use Rattle.std.proofs.lemmas.Bool.{lt-ltb}
use Rattle.axiom_rules.specs.declared.part.Part.{Part}
use Rattle.axiom_rules.specs.declared.node.Sub.{Sub}
use Rattle.axiom_rules.specs.Axioms.{pair_part, byte_part}

pub byte_found : (subs : List Sub) (p array x part j : ℕ) (s : Sub) (r : Option Part) → p < part / 2 → slice_get subs (part / 2) ≡ Some s → r ≡ pair_part p (part / 2) array x s.node part j → r ≡ byte_part subs p array x part j
byte_found subs p array x part j s r below found is =
    is
    ∙ sym (ap (λ (t : Bool). cond t (option_and_then (λ (u : Sub). pair_part p (part / 2) array x u.node part j) (slice_get subs (part / 2))) None) (lt-ltb p (part / 2) below)
    ∙ ap (λ (o : Option Sub). option_and_then (λ (u : Sub). pair_part p (part / 2) array x u.node part j) o) found)
