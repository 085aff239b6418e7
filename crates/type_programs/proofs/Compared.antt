-- Types that are compared one by one: where either list ends, the results are left.
use Rattle.std.proofs.Common.{◌≡◌, ◌≤◌, ℕ, List, [], ◌∷◌, length, drop, refl, ap, ◌∙◌}
use Rattle.std.proofs.lemmas.List.{drop_all}
use Rattle.sail_syntax.specs.declared.types.Ty.{Ty}
use Rattle.sail_syntax.specs.declared.types.Param.{Param}
use Rattle.type_rules.specs.Program.{compared, compared_each}

pub args_end : (at : ℕ) (ts : List Ty) (ps : List Param) (r g : Ty) (i : ℕ) → length ts ≤ i → compared_each at (drop i ts) ps r g ≡ compared at r g
args_end at ts ps r g i h = ap (λ (us : List Ty). compared_each at us ps r g) (drop_all i ts h)

no_params : (at : ℕ) (ts : List Ty) (r g : Ty) → compared_each at ts [] r g ≡ compared at r g
no_params at [] r g = refl
no_params at (t ∷ ts) r g = refl

pub params_end : (at : ℕ) (ts : List Ty) (ps : List Param) (r g : Ty) (i : ℕ) → length ps ≤ i → compared_each at ts (drop i ps) r g ≡ compared at r g
params_end at ts ps r g i h = ap (λ (qs : List Param). compared_each at ts qs r g) (drop_all i ps h) ∙ no_params at ts r g
