-- What is made is no larger than what was asked for, and each application on a right side is less work than its left side.
use Rattle.std.proofs.Common.{◌≡◌, ℕ, zero, suc, ◌+◌, ◌*◌, ◌<◌, ◌≤◌, Bool, true, false, cond, Option, Some, None, refl, ap, arith}
use Rattle.std.specs.Prelude.{⊤, nat_eq}
use Rattle.bv_bits.specs.declared.Op.{Op}
use Rattle.bv_bits.specs.declared.Op.TheVariants.{Add, Sub}
use Rattle.term_tree.specs.Terms.{Tree, lit, var, one, two, three, sel}
use Rattle.term_rules.specs.Rules.{Right, given, made_one, made_two, is_literal, rule_of}
use Rattle.term_make.specs.Making.{Made, build, make_by, make_within, make}
use Rattle.term_tree.specs.Sizes.{size}
use Rattle.term_rules.proofs.Rewrites.{Rewrites, not_relation, add_turned, add_literals, add_out_of_second, add_out_of_first, sub_literal, sub_out_of_second, sub_out_of_first, extract_extract, extract_low, extract_high, extract_zext, ite_literal}
use Rattle.term_rules.proofs.RewriteLemmas.{rewrites}

-- ---- sizes

-- the size of what a right side builds, if nothing is rewritten
abbrev pub right_size : Right → ℕ
right_size (given t) = size t
right_size (made_one op r) = 1 + right_size r
right_size (made_two op r s) = 1 + (right_size r + right_size s)

branch_size : (b : Bool) (x y : Tree) → size (cond b x y) ≤ size x + size y
branch_size true x y = omega arith
branch_size false x y = omega arith

rewrites_size : {t : Tree} {r : Right} → Rewrites t r → right_size r ≤ size t
rewrites_size (ite_literal t x y) = omega (arith, branch_size (nat_eq t.value 1) x y)
rewrites_size w = omega arith

-- a way to make applications that makes nothing larger
abbrev pub IsSmall : (Tree → Made Tree) → Type 0
IsSmall f = (t : Tree) → size (f t).it ≤ size t

pub build_size : (f : Tree → Made Tree) → IsSmall f → (r : Right) → size (build f r).it ≤ right_size r
build_size f small (given t) = omega arith
build_size f small (made_one op r) = omega (arith, small (one op (build f r).it), build_size f small r)
build_size f small (made_two op r s) =
    omega (arith, small (two op (build f r).it (build f s).it), build_size f small r, build_size f small s)

size_by : (f : Tree → Made Tree) → IsSmall f → (t : Tree) (o : Option Right) → rule_of t ≡ o → size (make_by f t o).it ≤ size t
size_by f small t None e = omega arith
size_by f small t (Some r) e = omega (arith, build_size f small r, rewrites_size (rewrites t r e))

pub within_size : (n : ℕ) (t : Tree) → size (make_within n t).it ≤ size t
within_size zero t = omega arith
within_size (suc n) t = size_by (make_within n) (within_size n) t (rule_of t) refl

pub make_size : (t : Tree) → size (make t).it ≤ size t
make_size t = within_size (4 * size t) t

-- ---- work

-- a difference may become a sum
abbrev rank : Op → ℕ
rank Sub = 2
rank op = 0

-- a literal goes to the second place
abbrev slack : Tree → ℕ
slack y = cond (is_literal y) 0 1

-- a bound on the rules that fit an application, one inside the other
abbrev pub work : Tree → ℕ
work (one op a) = 4 * size a
work (two op a b) = 4 * (size a + size b) + (rank op + slack b)
work (three op a b c) = 4 * (size a + (size b + size c))
work t = 0

rank_most : (op : Op) → rank op ≤ 2
rank_most Sub = omega arith
rank_most op = omega arith

slack_most : (y : Tree) → slack y ≤ 1
slack_most y = go (is_literal y)
  where
    go : (b : Bool) → cond b 0 1 ≤ 1
    go true = omega arith
    go false = omega arith

slack_of : (y : Tree) (b : Bool) → is_literal y ≡ b → slack y ≡ cond b 0 1
slack_of y b h = ap (λ c. cond c 0 1) h

pub work_below : (t : Tree) → work t < 4 * size t
work_below (lit b) = omega arith
work_below (var x w) = omega arith
work_below (one op a) = omega arith
work_below (two op a b) = omega (arith, rank_most op, slack_most b)
work_below (three op a b c) = omega arith
work_below (sel f i) = omega arith

-- each application that f makes for a right side is less work than k
abbrev pub IsWithin : (Tree → Made Tree) → ℕ → Right → Type 0
IsWithin f k (given t) = ⊤
IsWithin f k (made_one op r) = IsWithin f k r × (work (one op (build f r).it) < k)
IsWithin f k (made_two op r s) = IsWithin f k r × IsWithin f k s × (work (two op (build f r).it (build f s).it) < k)

pub rewrites_within : (f : Tree → Made Tree) → IsSmall f → {t : Tree} {r : Right} → Rewrites t r → IsWithin f (work t) r
rewrites_within f small (not_relation op p x y o) = (tt, tt, omega (arith, rank_most p, slack_most y))
rewrites_within f small (add_turned x y hx hy) = (tt, tt, omega (arith, slack_of x true hx, slack_of y false hy))
rewrites_within f small (add_literals x c d) = (tt, tt, omega arith)
rewrites_within f small (add_out_of_second x y c) =
    ((tt, tt, omega (arith, slack_most y)), tt, omega (arith, small (two Add x y)))
rewrites_within f small (add_out_of_first x y c h) =
    ((tt, tt, omega (arith, slack_most y)), tt, omega (arith, small (two Add x y), slack_of y false h))
rewrites_within f small (sub_literal x c) = (tt, tt, omega arith)
rewrites_within f small (sub_out_of_second x y c) =
    ((tt, tt, omega (arith, slack_most y)), tt, omega (arith, small (two Sub x y)))
rewrites_within f small (sub_out_of_first x y c h) =
    ((tt, tt, omega (arith, slack_most y)), tt, omega (arith, small (two Sub x y), slack_of y false h))
rewrites_within f small (extract_extract hi lo h l x) = (tt, omega arith)
rewrites_within f small (extract_low hi lo x y h) = (tt, omega arith)
rewrites_within f small (extract_high hi lo x y h) = (tt, omega arith)
rewrites_within f small (extract_zext hi lo to x h) = (tt, omega arith)
rewrites_within f small w = tt
