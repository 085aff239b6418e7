-- Replacements of which none misfits are as wide as their variable.
use Rattle.std.proofs.Common.{◌≡◌, ℕ, Bool, true, false, not, ◌&&◌, ◌||◌, List, [], ◌∷◌, refl, ap, sym, ◌∙◌}
use Rattle.std.specs.Prelude.{◌↔◌, All, nat_eq, bytes_eq}
use Rattle.std.specs.List.{list_any}
use Rattle.std.proofs.lemmas.Bool.{eqb-true, eq-eqb, false≢true}
use Rattle.std.proofs.lemmas.List.Elements.{All-nil, All-cons, All-head, All-tail}
use Rattle.term_tree.specs.Terms.{Text, Tree, var, width_of}
use Rattle.term_replace.specs.Fitting.{misfits}
use Rattle.term_replace.specs.Replacing.{Replacements, Fits}

-- as wide as a variable, where it has its name
abbrev FitsName : Text → ℕ → Text × Tree → Type 0
FitsName x w p = bytes_eq p.0 x ≡ true → width_of p.1 ≡ w

not_false : (c : Bool) → not c ≡ false → c ≡ true
not_false true h = refl
not_false false h = absurd (cc)

one_fits : (b : Bool) (v w : ℕ) → (b && not (nat_eq v w)) ≡ false → b ≡ true → v ≡ w
one_fits true v w h e = eqb-true v w (not_false (nat_eq v w) h)
one_fits false v w h e = absurd (false≢true e)

none_misfits : (b : Bool) (v w : ℕ) → (b ≡ true → v ≡ w) → (b && not (nat_eq v w)) ≡ false
none_misfits true v w f = ap not (eq-eqb v w (f refl))
none_misfits false v w f = refl

neither : (b c : Bool) → (b || c) ≡ false → (b ≡ false) × (c ≡ false)
neither true c h = absurd (cc)
neither false c h = (refl, h)

all_fit : (x : Text) (w : ℕ) (ps : List (Text × Tree)) → list_any (misfits x w) ps ≡ false → All (FitsName x w) ps
all_fit x w [] h = All-nil (FitsName x w)
all_fit x w (p ∷ ps) h =
    let s = neither (misfits x w p) (list_any (misfits x w) ps) h in
    All-cons (FitsName x w) p ps (one_fits (bytes_eq p.0 x) (width_of p.1) w s.0) (all_fit x w ps s.1)

none_misfit : (x : Text) (w : ℕ) (ps : List (Text × Tree)) → All (FitsName x w) ps → list_any (misfits x w) ps ≡ false
none_misfit x w [] h = refl
none_misfit x w (p ∷ ps) h =
    ap (λ b. b || list_any (misfits x w) ps) (none_misfits (bytes_eq p.0 x) (width_of p.1) w (All-head (FitsName x w) p ps h))
    ∙ none_misfit x w ps (All-tail (FitsName x w) p ps h)

pub variable_fits : (by : Replacements) (x : Text) (w : ℕ) (b : Bool) → b ≡ list_any (misfits x w) by.terms → (not b ≡ true) ↔ Fits by (var x w)
variable_fits by x w true e = (λ h. absurd (false≢true h), λ f. absurd (false≢true (sym (e ∙ none_misfit x w by.terms f))))
variable_fits by x w false e = (λ h. all_fit x w by.terms (sym e), λ f. refl)
