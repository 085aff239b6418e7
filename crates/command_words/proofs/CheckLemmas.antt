-- Which words behind the name `check` the parser takes, and the values that it finds.
use Rattle.std.proofs.Common.{ap, sym, refl, codes, true, option_map, List, Option, Some, None, [], ◌∷◌, ◌≡◌, ◌∙◌}
use Rattle.clap.specs.Faults.{fault_of}
use Rattle.clap.specs.Words.{Row, Text, first_of, first_value, rows_of, subcommand_of, takes}
use Rattle.clap.specs.declared.parser.matches.Found.{Found}
use Rattle.clap.proofs.OnLiterals.{clap_on_literals}
use Rattle.clap.proofs.WalkLemmas.{first_value-rows}
use Rattle.report_text.specs.Names.{Row as NamedRow}
use Rattle.command_words.specs.Apps.{app, HasNames}
use Rattle.command_words.proofs.WalkLemmas.{behind, check_fault_is, fault_by}

-- ---- the words that are taken

none_given : fault_of app (codes "check" ∷ codes "--" ∷ []) ≡ [] → ⊥
unfolding clap_on_literals
none_given e = absurd (cc)

one_given : (a : Text) → fault_of app (codes "check" ∷ codes "--" ∷ a ∷ []) ≡ [] → ⊥
unfolding clap_on_literals
one_given a e = absurd (cc)

two_given : (a b : Text) → fault_of app (codes "check" ∷ codes "--" ∷ a ∷ b ∷ []) ≡ [] → ⊥
unfolding clap_on_literals
two_given a b e = absurd (cc)

many_given : (a b c d : Text) (more : List Text) → fault_of app (codes "check" ∷ codes "--" ∷ a ∷ b ∷ c ∷ d ∷ more) ≡ [] → ⊥
unfolding clap_on_literals
many_given a b c d more e =
    let words : List Text = codes "--" ∷ a ∷ b ∷ c ∷ d ∷ more in
    let bad : fault_by (behind (codes "check") words) [] ≡ [] = sym (check_fault_is words) ∙ e in
    absurd (cc)

-- three names
pub record IsCheck (rest : List Text) : Type 0 where
  pub sail : Text
  pub image : Text
  pub proof : Text
  pub are : rest ≡ sail ∷ image ∷ proof ∷ []

-- words behind `check` that the parser doesn't refuse are three
pub is_check : (rest : List Text) → fault_of app (codes "check" ∷ codes "--" ∷ rest) ≡ [] → IsCheck rest
is_check [] e = absurd (none_given e)
is_check (a ∷ []) e = absurd (one_given a e)
is_check (a ∷ b ∷ []) e = absurd (two_given a b e)
is_check (a ∷ b ∷ c ∷ []) e = record { sail = a; image = b; proof = c; are = refl }
is_check (a ∷ b ∷ c ∷ d ∷ more) e = absurd (many_given a b c d more e)

-- three names behind `check` are taken
pub check_taken : (a b c : Text) → takes app (codes "check" ∷ codes "--" ∷ a ∷ b ∷ c ∷ []) ≡ true
unfolding clap_on_literals
check_taken a b c = refl

-- ---- the values

pub check_name : (a b c : Text) → option_map (λ p. p.0) (subcommand_of app (codes "check" ∷ codes "--" ∷ a ∷ b ∷ c ∷ [])) ≡ Some (codes "check")
unfolding clap_on_literals
check_name a b c = refl

sail_is : (a b c : Text) → option_map (λ p. first_of (codes "SAIL") p.1) (subcommand_of app (codes "check" ∷ codes "--" ∷ a ∷ b ∷ c ∷ [])) ≡ Some (Some a)
unfolding clap_on_literals
sail_is a b c = refl

image_is : (a b c : Text) → option_map (λ p. first_of (codes "IMAGE") p.1) (subcommand_of app (codes "check" ∷ codes "--" ∷ a ∷ b ∷ c ∷ [])) ≡ Some (Some b)
unfolding clap_on_literals
image_is a b c = refl

proof_is : (a b c : Text) → option_map (λ p. first_of (codes "PROOF") p.1) (subcommand_of app (codes "check" ∷ codes "--" ∷ a ∷ b ∷ c ∷ [])) ≡ Some (Some c)
unfolding clap_on_literals
proof_is a b c = refl

-- a value of the subcommand
pub value_of : (r : Option (Text × List Row)) (f : Found) (id v : Text) → option_map (λ p. p.1) r ≡ Some (rows_of f)
    → option_map (λ p. first_of id p.1) r ≡ Some (Some v) → first_value f id ≡ Some v
value_of None f id v rows first = absurd (cc)
value_of (Some p) f id v rows first =
    let same : p.1 ≡ rows_of f = cc in
    let value : first_of id p.1 ≡ Some v = cc in
    first_value-rows f id ∙ ap (first_of id) (sym same) ∙ value

-- the values of `check` are the names
pub has_names : (a b c : Text) (r : Option (Text × List Row)) (f : Found) → r ≡ subcommand_of app (codes "check" ∷ codes "--" ∷ a ∷ b ∷ c ∷ [])
    → option_map (λ p. p.1) r ≡ Some (rows_of f) → HasNames f (record { sail = a; image = b; proof = c })
has_names a b c r f is rows = record {
  sail = value_of r f (codes "SAIL") a rows (ap (λ o. option_map (λ p. first_of (codes "SAIL") p.1) o) is ∙ sail_is a b c);
  image = value_of r f (codes "IMAGE") b rows (ap (λ o. option_map (λ p. first_of (codes "IMAGE") p.1) o) is ∙ image_is a b c);
  proof = value_of r f (codes "PROOF") c rows (ap (λ o. option_map (λ p. first_of (codes "PROOF") p.1) o) is ∙ proof_is a b c);
}
