-- The entries of a map, as a finite map.
use Rattle.std.proofs.Common.{◌≡◌, ℕ, List, [], ◌∷◌, refl, sym, ap, ◌∙◌, cond, Some}
use Rattle.std.specs.Ordering.{nat_cmp, is_eq, eq_by_cmp}
use Rattle.std.specs.Cmp.{eq_by_cmp_equiv}
use Rattle.std.proofs.lemmas.Cmp.{nat_cmp_total}
use Rattle.std.specs.Map.{lookup}
use Rattle.std.specs.BTreeMap.{is_at}
use Rattle.std.specs.FinMap.{FinMap, get, insert, from_entries, get-from_entries, get-insert, same_map, nat_cmp-IsAntisymmetric, find}

find_is : (es : List (ℕ × ℕ)) (q : ℕ) → find nat_cmp q es ≡ lookup (is_at (nat_cmp q)) es
find_is [] q = refl
find_is (e ∷ es) q = ap (cond (is_eq (nat_cmp q e.0)) (Some e.1)) (find_is es q)

pub view_get : (m : FinMap nat_cmp ℕ) (es : List (ℕ × ℕ)) (q : ℕ) → from_entries es ≡ m → get m q ≡ lookup (is_at (nat_cmp q)) es
view_get m es q is = ap (λ x. get x q) (sym is) ∙ get-from_entries nat_cmp_total es q ∙ find_is es q

pub view_insert : (m : FinMap nat_cmp ℕ) (es new : List (ℕ × ℕ)) (k v : ℕ) → from_entries es ≡ m
    → ((q : ℕ) → lookup (is_at (nat_cmp q)) new ≡ cond (is_at (nat_cmp k) q) (Some v) (lookup (is_at (nat_cmp q)) es)) → from_entries new ≡ insert m k v
view_insert m es new k v is updates =
    same_map nat_cmp_total nat_cmp-IsAntisymmetric (from_entries new) (insert m k v) (λ q.
    view_get (from_entries new) new q refl ∙ updates q
    ∙ ap (λ b. cond b (Some v) (lookup (is_at (nat_cmp q)) es)) ((eq_by_cmp_equiv nat_cmp_total).symm k q)
    ∙ ap (cond (eq_by_cmp nat_cmp q k) (Some v)) (sym (view_get m es q is))
    ∙ sym (get-insert nat_cmp_total m k v q))
