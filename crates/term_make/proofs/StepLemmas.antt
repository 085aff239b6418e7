-- The bound on rules suffices, and the function gives what the relation says.
use Rattle.std.proofs.Common.{◌≡◌, ℕ, zero, suc, ◌-◌, ◌*◌, ◌<◌, List, [], ◌++◌, Option, Some, None, refl, ap, sym, ◌∙◌, arith}
use Rattle.std.specs.Prelude.{All}
use Rattle.std.proofs.lemmas.List.Elements.{All-append, All-nil, All-cons}
use Rattle.term_tree.specs.Terms.{Tree, one, two}
use Rattle.term_rules.specs.Rules.{Right, given, made_one, made_two, rule_of}
use Rattle.term_make.specs.Making.{IsMade, IsBuilt, plain, ruled, stands, builds_one, builds_two, Asked, Made, made_then, asks, build, make_by, make_within, make}
use Rattle.term_tree.specs.Sizes.{size}
use Rattle.term_rules.proofs.RewriteLemmas.{rewrites}
use Rattle.term_make.proofs.SizeLemmas.{IsSmall, within_size, work, work_below, IsWithin, rewrites_within}

-- ---- the bound suffices

then_same : {A B : Type 0} (m n : Made A) (p q : A → Made B) → m ≡ n → p m.it ≡ q m.it → made_then m p ≡ made_then n q
then_same {A} {B} m n p q e f =
    ap (λ (z : Made B). made_then m (λ x. z)) f ∙ ap (λ (z : Made A). made_then z q) e

pub build_same : (f g : Tree → Made Tree) (k : ℕ) → ((t : Tree) → work t < k → f t ≡ g t) → (r : Right) → IsWithin f k r → build f r ≡ build g r
build_same f g k h (given t) w = refl
build_same f g k h (made_one op r) w =
    then_same (build f r) (build g r) (λ x. f (one op x)) (λ x. g (one op x)) (build_same f g k h r w.0) (h (one op (build f r).it) w.1)
build_same f g k h (made_two op r s) w =
    let x = (build f r).it in
    then_same (build f r) (build g r) (λ x. made_then (build f s) (λ y. f (two op x y))) (λ x. made_then (build g s) (λ y. g (two op x y))) (build_same f g k h r w.0)
    (then_same (build f s) (build g s) (λ y. f (two op x y)) (λ y. g (two op x y)) (build_same f g k h s w.1) (h (two op x (build f s).it) w.2))

same_by : (f g : Tree → Made Tree) → IsSmall f → (t : Tree) → ((u : Tree) → work u < work t → f u ≡ g u) → (o : Option Right) → rule_of t ≡ o → make_by f t o ≡ make_by g t o
same_by f g small t h None e = refl
same_by f g small t h (Some r) e =
    ap (asks t) (build_same f g (work t) h r (rewrites_within f small (rewrites t r e)))

enough : (n m : ℕ) (t : Tree) → work t < n → work t < m → make_within n t ≡ make_within m t
enough zero m t p q = absurd (omega arith)
enough (suc n) zero t p q = absurd (omega arith)
enough (suc n) (suc m) t p q =
    same_by (make_within n) (make_within m) (within_size n) t (λ u h. enough n m u (omega arith) (omega arith)) (rule_of t) refl

pub make_steps : (t : Tree) → make t ≡ make_by make t (rule_of t)
make_steps t =
    let n = 4 * size t - 1 in
    let e : 4 * size t ≡ suc n = omega (arith, work_below t) in
    ap (λ k. make_within k t) e
    ∙ same_by (make_within n) make (within_size n) t (λ u h. enough n (4 * size u) u (omega (arith, work_below t)) (work_below u)) (rule_of t) refl

-- ---- the relation

built_within : (f : Tree → Made Tree) (k : ℕ) → ((t : Tree) → work t < k → IsMade t (f t).it) → (r : Right) → IsWithin f k r → IsBuilt r (build f r).it
built_within f k h (given t) w = stands
built_within f k h (made_one op r) w = builds_one (built_within f k h r w.0) (h (one op (build f r).it) w.1)
built_within f k h (made_two op r s) w =
    builds_two (built_within f k h r w.0) (built_within f k h s w.1) (h (two op (build f r).it (build f s).it) w.2)

made_by : (f : Tree → Made Tree) → IsSmall f → (t : Tree) → ((u : Tree) → work u < work t → IsMade u (f u).it) → (o : Option Right) → rule_of t ≡ o → IsMade t (make_by f t o).it
made_by f small t h None e = plain e
made_by f small t h (Some r) e = ruled e (built_within f (work t) h r (rewrites_within f small (rewrites t r e)))

made_within : (n : ℕ) (t : Tree) → work t < n → IsMade t (make_within n t).it
made_within zero t p = absurd (omega arith)
made_within (suc n) t p =
    made_by (make_within n) (within_size n) t (λ u h. made_within n u (omega arith)) (rule_of t) refl

pub is_made : (t : Tree) → IsMade t (make t).it
is_made t = made_within (4 * size t) t (work_below t)

pub built : (r : Right) → IsBuilt r (build make r).it
built (given t) = stands
built (made_one op r) = builds_one (built r) (is_made (one op (build make r).it))
built (made_two op r s) = builds_two (built r) (built s) (is_made (two op (build make r).it (build make s).it))

-- ---- what the relation says is what the function gives

mutual
  pub made_is : {t u : Tree} → IsMade t u → u ≡ (make t).it
  made_is (plain {t = t} e) = sym (ap (λ (m : Made Tree). m.it) (make_steps t ∙ ap (make_by make t) e))
  made_is (ruled {t = t} {r = r} e b) =
      built_is b ∙ sym (ap (λ (m : Made Tree). m.it) (make_steps t ∙ ap (make_by make t) e))

  pub built_is : {r : Right} {u : Tree} → IsBuilt r u → u ≡ (build make r).it
  built_is stands = refl
  built_is (builds_one {op = op} b m) = made_is m ∙ ap (λ (x : Tree). (make (one op x)).it) (built_is b)
  built_is (builds_two {op = op} {s = s} {x = x} {y = y} b c m) =
      made_is m ∙ ap (λ (y : Tree). (make (two op x y)).it) (built_is c) ∙ ap (λ (x : Tree). (make (two op x (build make s).it)).it) (built_is b)

pub made_once : {t u v : Tree} → IsMade t u → IsMade t v → u ≡ v
made_once m n = made_is m ∙ sym (made_is n)

-- ---- all that is asked for

-- an application, and what is made of it
abbrev pub IsResult : Asked → Type 0
IsResult a = IsMade a.0 a.1

results_within : (f : Tree → Made Tree) (k : ℕ) → ((t : Tree) → work t < k → All IsResult (f t).asked) → (r : Right) → IsWithin f k r → All IsResult (build f r).asked
results_within f k h (given t) w = All-nil IsResult
results_within f k h (made_one op r) w =
    All-append IsResult (build f r).asked _ (results_within f k h r w.0) (h (one op (build f r).it) w.1)
results_within f k h (made_two op r s) w =
    All-append IsResult (build f r).asked _ (results_within f k h r w.0)
    (All-append IsResult (build f s).asked _ (results_within f k h s w.1) (h (two op (build f r).it (build f s).it) w.2))

results_by : (n : ℕ) (t : Tree) → work t < suc n → ((u : Tree) → work u < work t → All IsResult (make_within n u).asked) → (o : Option Right) → rule_of t ≡ o → All IsResult (make_by (make_within n) t o).asked
results_by n t p h None e = All-cons IsResult (t, t) [] (plain e) (All-nil IsResult)
results_by n t p h (Some r) e =
    let w = rewrites_within (make_within n) (within_size n) (rewrites t r e) in
    let m = ruled e (built_within (make_within n) (work t) (λ u l. made_within n u (omega arith)) r w) in
    All-append IsResult (build (make_within n) r).asked _ (results_within (make_within n) (work t) h r w) (All-cons IsResult (t, (build (make_within n) r).it) [] m (All-nil IsResult))

all_results : (n : ℕ) (t : Tree) → work t < n → All IsResult (make_within n t).asked
all_results zero t p = absurd (omega arith)
all_results (suc n) t p = results_by n t p (λ u h. all_results n u (omega arith)) (rule_of t) refl

pub made_results : (t : Tree) → All (λ a. IsMade a.0 a.1) (make t).asked
made_results t = all_results (4 * size t) t (work_below t)

-- one is made and then another one of it: all that is asked for is what the relation says
pub results_then : (m : Made Tree) (asked : List Asked) → All IsResult m.asked → All IsResult asked → All IsResult (m.asked ++ asked)
results_then m asked h k = All-append IsResult m.asked asked h k
