-- Each right side that a rule gives is one of the forms.
use Rattle.std.proofs.Common.{◌≡◌, ◌+◌, Bool, true, false, ◌&&◌, Option, Some, None, refl, subst, ap, sym}
use Rattle.std.proofs.lemmas.Option.{none-some}
use Rattle.std.proofs.lemmas.Bool.{eqb-true, ltb-true, leb-true, and_parts}
use Rattle.std.specs.Prelude.{unwrap_or, nat_eq, nat_lt, nat_le}
use Rattle.bv_bits.specs.declared.Bits.{Bits}
use Rattle.bv_bits.specs.declared.Op.{Op}
use Rattle.bv_bits.specs.declared.Op.TheVariants.{Not, And, Or, Xor, Add, Sub, Mul, Shl, LShr, AShr, ULt, ULe, UGt, UGe, Concat, Extract, ZExt, SExt, Ite}
use Rattle.bv_bits.specs.Bits.{bit}
use Rattle.term_tree.specs.Terms.{Tree, lit, var, one, two, three, sel, width_of, same_tree}
use Rattle.term_rules.specs.Rules.{Right, given, made_two, right_if, or_else, literal, is_literal, is_number, is_zero, is_ones, other_if, that_if, opposite, holds_of_same, turned, out_of_second, out_of_first, taken_from_second, left_over, truth_if, branch_of, rule_literals, rule_not_not, rule_not_relation, rule_and_zero, rule_and_ones, rule_and_or_same, rule_or_zero, rule_or_ones, rule_xor, rule_add_literal_first, rule_add_zero, rule_add_literals, rule_add_out, rule_sub_literal, rule_sub_same, rule_sub_out, rule_mul, rule_shift_zero, rule_relation_same, rule_relation_zero, rule_extract_all, rule_extract_part, rule_extended, rule_ite, rule_of}
use Rattle.term_tree.proofs.SameLemmas.{same_is}
use Rattle.term_rules.proofs.Rewrites.{Rewrites, one_literal, two_literals, three_literals, not_not, not_relation, zero_and, and_zero, ones_and, and_ones, and_same, or_same, zero_or, or_zero, ones_or, or_ones, zero_xor, xor_zero, xor_same, add_turned, add_zero, add_literals, add_out_of_second, add_out_of_first, sub_literal, sub_same, sub_left, sub_out_of_second, sub_out_of_first, zero_mul, mul_zero, one_mul, mul_one, shl_zero, lshr_zero, ashr_zero, relation_same, below_zero, zero_above, at_least_zero, zero_at_most, extract_all, extract_extract, extract_low, extract_high, extract_zext, zext_own, sext_own, ite_literal, ite_same}

-- ---- answers of rules

nothing : {A : Type 0} {r : Right} → None ≡ Some r → A
nothing {r = r} e = absurd (none-some r e)

module _ (t : Tree) where
  by_some : (q r : Right) → Rewrites t q → Some q ≡ Some r → Rewrites t r
  by_some q r f e = subst (Rewrites t) (ap (λ (o : Option Right). unwrap_or o q) e) f

  by_test : (b : Bool) (q r : Right) → (b ≡ true → Rewrites t q) → right_if b q ≡ Some r → Rewrites t r
  by_test true q r f e = by_some q r (f refl) e
  by_test false q r f e = nothing e

  by_either : (o p : Option Right) (r : Right) → (o ≡ Some r → Rewrites t r) → (p ≡ Some r → Rewrites t r) → or_else o p ≡ Some r → Rewrites t r
  by_either (Some q) p r f g e = f e
  by_either None p r f g e = g e

  by_next : (o p : Option Right) (r : Right) → (o ≡ Some r → Rewrites t r) → (o ≡ None → p ≡ Some r → Rewrites t r) → or_else o p ≡ Some r → Rewrites t r
  by_next (Some q) p r f g e = f e
  by_next None p r f g e = g refl e

  by_other : (test : Tree → Bool) (x y : Tree) (r : Right) → (test x ≡ true → Rewrites t (given y)) → (test y ≡ true → Rewrites t (given x)) → other_if test x y ≡ Some r → Rewrites t r
  by_other test x y r f g e =
      by_either (right_if (test x) (given y)) (right_if (test y) (given x)) r (by_test (test x) (given y) r f) (by_test (test y) (given x) r g) e

  by_that : (test : Tree → Bool) (x y : Tree) (r : Right) → (test x ≡ true → Rewrites t (given x)) → (test y ≡ true → Rewrites t (given y)) → that_if test x y ≡ Some r → Rewrites t r
  by_that test x y r f g e =
      by_either (right_if (test x) (given x)) (right_if (test y) (given y)) r (by_test (test x) (given x) r f) (by_test (test y) (given y) r g) e

-- ---- rule by rule

from_literals : (t : Tree) (r : Right) → rule_literals t ≡ Some r → Rewrites t r
from_literals (one op (lit a)) r e = by_some _ _ _ (one_literal op a) e
from_literals (two op (lit a) (lit b)) r e = by_some _ _ _ (two_literals op a b) e
from_literals (three op (lit a) (lit b) (lit c)) r e = by_some _ _ _ (three_literals op a b c) e
from_literals t r e = nothing e

from_not_not : (t : Tree) (r : Right) → rule_not_not t ≡ Some r → Rewrites t r
from_not_not (one Not (one Not x)) r e = by_some _ _ _ (not_not x) e
from_not_not t r e = nothing e

from_turned : (op : Op) (x y : Tree) (r : Right) (o : Option Op) → opposite op ≡ o → turned o x y ≡ Some r → Rewrites (one Not (two op x y)) r
from_turned op x y r (Some p) o e = by_some _ _ _ (not_relation op p x y o) e
from_turned op x y r None o e = nothing e

from_not_relation : (t : Tree) (r : Right) → rule_not_relation t ≡ Some r → Rewrites t r
from_not_relation (one Not (two op x y)) r e = from_turned op x y r (opposite op) refl e
from_not_relation t r e = nothing e

from_and_zero : (t : Tree) (r : Right) → rule_and_zero t ≡ Some r → Rewrites t r
from_and_zero (two And x y) r e = by_that _ is_zero x y r (zero_and x y) (and_zero x y) e
from_and_zero t r e = nothing e

from_and_ones : (t : Tree) (r : Right) → rule_and_ones t ≡ Some r → Rewrites t r
from_and_ones (two And x y) r e = by_other _ is_ones x y r (ones_and x y) (and_ones x y) e
from_and_ones t r e = nothing e

from_and_or_same : (t : Tree) (r : Right) → rule_and_or_same t ≡ Some r → Rewrites t r
from_and_or_same (two And x y) r e = by_test _ (same_tree x y) (given x) r (λ s. and_same x y (same_is x y s)) e
from_and_or_same (two Or x y) r e = by_test _ (same_tree x y) (given x) r (λ s. or_same x y (same_is x y s)) e
from_and_or_same t r e = nothing e

from_or_zero : (t : Tree) (r : Right) → rule_or_zero t ≡ Some r → Rewrites t r
from_or_zero (two Or x y) r e = by_other _ is_zero x y r (zero_or x y) (or_zero x y) e
from_or_zero t r e = nothing e

from_or_ones : (t : Tree) (r : Right) → rule_or_ones t ≡ Some r → Rewrites t r
from_or_ones (two Or x y) r e = by_that _ is_ones x y r (ones_or x y) (or_ones x y) e
from_or_ones t r e = nothing e

from_xor : (t : Tree) (r : Right) → rule_xor t ≡ Some r → Rewrites t r
from_xor (two Xor x y) r e =
    let none = given (literal (width_of x) 0) in
    by_either _ (other_if is_zero x y) (right_if (same_tree x y) none) r (by_other _ is_zero x y r (zero_xor x y) (xor_zero x y)) (by_test _ (same_tree x y) none r (λ s. xor_same x y (same_is x y s))) e
from_xor t r e = nothing e

no_literals : (op : Op) (x y : Tree) → rule_literals (two op x y) ≡ None → is_literal x ≡ true → is_literal y ≡ false
no_literals op (lit a) (lit b) e h = nothing (sym e)
no_literals op x (var y w) e h = refl
no_literals op x (one p y) e h = refl
no_literals op x (two p y z) e h = refl
no_literals op x (three p y z w) e h = refl
no_literals op x (sel f i) e h = refl
no_literals op x y e h = nothing (ap (λ (b : Bool). right_if b (given x)) h)

from_add_literal_first : (t : Tree) (r : Right) → rule_literals t ≡ None → rule_add_literal_first t ≡ Some r → Rewrites t r
from_add_literal_first (two Add x y) r n e =
    by_test _ (is_literal x) (made_two Add (given y) (given x)) r (λ h. add_turned x y h (no_literals Add x y n h)) e
from_add_literal_first t r n e = nothing e

from_add_zero : (t : Tree) (r : Right) → rule_add_zero t ≡ Some r → Rewrites t r
from_add_zero (two Add x y) r e = by_test _ (is_zero y) (given x) r (add_zero x y) e
from_add_zero t r e = nothing e

from_add_literals : (t : Tree) (r : Right) → rule_add_literals t ≡ Some r → Rewrites t r
from_add_literals (two Add (two Add x (lit c)) (lit d)) r e = by_some _ _ _ (add_literals x c d) e
from_add_literals t r e = nothing e

from_out_of_second : (x y : Tree) (r : Right) → out_of_second Add x y ≡ Some r → Rewrites (two Add x y) r
from_out_of_second x (two Add y (lit c)) r e = by_some _ _ _ (add_out_of_second x y c) e
from_out_of_second x y r e = nothing e

not_both : (x y : Tree) (c : Bits) → rule_add_literals (two Add (two Add x (lit c)) y) ≡ None → is_literal y ≡ false
not_both x (lit d) c n = nothing (sym n)
not_both x y c n = refl

from_out_of_first : (x y : Tree) (r : Right) → rule_add_literals (two Add x y) ≡ None → out_of_first Add x y ≡ Some r → Rewrites (two Add x y) r
from_out_of_first (two Add x (lit c)) y r n e = by_some _ _ _ (add_out_of_first x y c (not_both x y c n)) e
from_out_of_first x y r n e = nothing e

from_add_out : (t : Tree) (r : Right) → rule_add_literals t ≡ None → rule_add_out t ≡ Some r → Rewrites t r
from_add_out (two Add x y) r n e =
    by_either _ (out_of_second Add x y) (out_of_first Add x y) r (from_out_of_second x y r) (from_out_of_first x y r n) e
from_add_out t r n e = nothing e

from_sub_literal : (t : Tree) (r : Right) → rule_sub_literal t ≡ Some r → Rewrites t r
from_sub_literal (two Sub x (lit c)) r e = by_some _ _ _ (sub_literal x c) e
from_sub_literal t r e = nothing e

from_left_over : (s t : Tree) (r : Right) → left_over s t ≡ Some r → Rewrites (two Sub s t) r
from_left_over (two Add x y) t r e = by_test _ (same_tree x t) (given y) r (λ s. sub_left x y t (same_is x t s)) e
from_left_over s t r e = nothing e

from_sub_same : (t : Tree) (r : Right) → rule_sub_same t ≡ Some r → Rewrites t r
from_sub_same (two Sub x y) r e =
    let none = given (literal (width_of x) 0) in
    by_either _ (right_if (same_tree x y) none) (left_over x y) r (by_test _ (same_tree x y) none r (λ s. sub_same x y (same_is x y s))) (from_left_over x y r) e
from_sub_same t r e = nothing e

from_taken : (x y : Tree) (r : Right) → taken_from_second x y ≡ Some r → Rewrites (two Sub x y) r
from_taken x (two Add y (lit c)) r e = by_some _ _ _ (sub_out_of_second x y c) e
from_taken x y r e = nothing e

no_literal : (x y : Tree) → rule_sub_literal (two Sub x y) ≡ None → is_literal y ≡ false
no_literal x (lit d) n = nothing (sym n)
no_literal x y n = refl

from_difference : (x y : Tree) (r : Right) → rule_sub_literal (two Sub x y) ≡ None → out_of_first Sub x y ≡ Some r → Rewrites (two Sub x y) r
from_difference (two Add x (lit c)) y r n e = by_some _ _ _ (sub_out_of_first x y c (no_literal (two Add x (lit c)) y n)) e
from_difference x y r n e = nothing e

from_sub_out : (t : Tree) (r : Right) → rule_sub_literal t ≡ None → rule_sub_out t ≡ Some r → Rewrites t r
from_sub_out (two Sub x y) r n e =
    by_either _ (taken_from_second x y) (out_of_first Sub x y) r (from_taken x y r) (from_difference x y r n) e
from_sub_out t r n e = nothing e

from_mul : (t : Tree) (r : Right) → rule_mul t ≡ Some r → Rewrites t r
from_mul (two Mul x y) r e =
    by_either _ (that_if is_zero x y) (other_if (is_number 1) x y) r (by_that _ is_zero x y r (zero_mul x y) (mul_zero x y)) (by_other _ (is_number 1) x y r (one_mul x y) (mul_one x y)) e
from_mul t r e = nothing e

from_shift_zero : (t : Tree) (r : Right) → rule_shift_zero t ≡ Some r → Rewrites t r
from_shift_zero (two Shl x y) r e = by_test _ (is_zero y) (given x) r (shl_zero x y) e
from_shift_zero (two LShr x y) r e = by_test _ (is_zero y) (given x) r (lshr_zero x y) e
from_shift_zero (two AShr x y) r e = by_test _ (is_zero y) (given x) r (ashr_zero x y) e
from_shift_zero t r e = nothing e

from_truth : (op : Op) (x y : Tree) (r : Right) (o : Option Bool) → holds_of_same op ≡ o → truth_if (same_tree x y) o ≡ Some r → Rewrites (two op x y) r
from_truth op x y r (Some b) o e =
    by_test _ (same_tree x y) (given (literal 1 (bit b))) r (λ s. relation_same op b x y (same_is x y s) o) e
from_truth op x y r None o e = nothing e

from_relation_same : (t : Tree) (r : Right) → rule_relation_same t ≡ Some r → Rewrites t r
from_relation_same (two op x y) r e = from_truth op x y r (holds_of_same op) refl e
from_relation_same t r e = nothing e

from_relation_zero : (t : Tree) (r : Right) → rule_relation_zero t ≡ Some r → Rewrites t r
from_relation_zero (two ULt x y) r e = by_test _ (is_zero y) (given (literal 1 0)) r (below_zero x y) e
from_relation_zero (two UGt x y) r e = by_test _ (is_zero x) (given (literal 1 0)) r (zero_above x y) e
from_relation_zero (two UGe x y) r e = by_test _ (is_zero y) (given (literal 1 1)) r (at_least_zero x y) e
from_relation_zero (two ULe x y) r e = by_test _ (is_zero x) (given (literal 1 1)) r (zero_at_most x y) e
from_relation_zero t r e = nothing e

from_extract_all : (t : Tree) (r : Right) → rule_extract_all t ≡ Some r → Rewrites t r
from_extract_all (one (Extract hi lo) x) r e =
    by_test _ (nat_eq lo 0 && nat_eq (hi + 1) (width_of x)) (given x) r
    (λ b. let p = and_parts (nat_eq lo 0) (nat_eq (hi + 1) (width_of x)) b in extract_all hi lo x (eqb-true _ _ p.0) (eqb-true _ _ p.1)) e
from_extract_all t r e = nothing e

from_extract_part : (t : Tree) (r : Right) → rule_extract_part t ≡ Some r → Rewrites t r
from_extract_part (one (Extract hi lo) (one (Extract h l) x)) r e = by_some _ _ _ (extract_extract hi lo h l x) e
from_extract_part (one (Extract hi lo) (two Concat x y)) r e =
    by_either _ (right_if (nat_lt hi (width_of y)) _) (right_if (nat_le (width_of y) lo) _) r
    (by_test _ (nat_lt hi (width_of y)) _ r (λ b. extract_low hi lo x y (ltb-true _ _ b)))
    (by_test _ (nat_le (width_of y) lo) _ r (λ b. extract_high hi lo x y (leb-true _ _ b))) e
from_extract_part t r e = nothing e

from_extended : (t : Tree) (r : Right) → rule_extended t ≡ Some r → Rewrites t r
from_extended (one (Extract hi lo) (one (ZExt to) x)) r e =
    by_test _ (nat_lt hi (width_of x)) _ r (λ b. extract_zext hi lo to x (ltb-true _ _ b)) e
from_extended (one (ZExt to) x) r e = by_test _ (nat_eq to (width_of x)) _ r (λ b. zext_own to x (eqb-true _ _ b)) e
from_extended (one (SExt to) x) r e = by_test _ (nat_eq to (width_of x)) _ r (λ b. sext_own to x (eqb-true _ _ b)) e
from_extended t r e = nothing e

from_branch : (t x y : Tree) (r : Right) → branch_of t x y ≡ Some r → Rewrites (three Ite t x y) r
from_branch (lit b) x y r e = by_some _ _ _ (ite_literal b x y) e
from_branch t x y r e = nothing e

from_ite : (t : Tree) (r : Right) → rule_ite t ≡ Some r → Rewrites t r
from_ite (three Ite t x y) r e =
    by_either _ (branch_of t x y) (right_if (same_tree x y) (given x)) r (from_branch t x y r) (by_test _ (same_tree x y) (given x) r (λ s. ite_same t x y (same_is x y s))) e
from_ite t r e = nothing e

-- ---- the first that fits

pub rewrites : (t : Tree) (r : Right) → rule_of t ≡ Some r → Rewrites t r
rewrites t r e =
    by_next t (rule_literals t) _ r (from_literals t r) (λ no_literals.
    by_either t (rule_not_not t) _ r (from_not_not t r) (
    by_either t (rule_not_relation t) _ r (from_not_relation t r) (
    by_either t (rule_and_zero t) _ r (from_and_zero t r) (
    by_either t (rule_and_ones t) _ r (from_and_ones t r) (
    by_either t (rule_and_or_same t) _ r (from_and_or_same t r) (
    by_either t (rule_or_zero t) _ r (from_or_zero t r) (
    by_either t (rule_or_ones t) _ r (from_or_ones t r) (
    by_either t (rule_xor t) _ r (from_xor t r) (
    by_either t (rule_add_literal_first t) _ r (from_add_literal_first t r no_literals) (
    by_either t (rule_add_zero t) _ r (from_add_zero t r) (
    by_next t (rule_add_literals t) _ r (from_add_literals t r) (λ no_sum.
    by_either t (rule_add_out t) _ r (from_add_out t r no_sum) (
    by_next t (rule_sub_literal t) _ r (from_sub_literal t r) (λ no_difference.
    by_either t (rule_sub_same t) _ r (from_sub_same t r) (
    by_either t (rule_sub_out t) _ r (from_sub_out t r no_difference) (
    by_either t (rule_mul t) _ r (from_mul t r) (
    by_either t (rule_shift_zero t) _ r (from_shift_zero t r) (
    by_either t (rule_relation_same t) _ r (from_relation_same t r) (
    by_either t (rule_relation_zero t) _ r (from_relation_zero t r) (
    by_either t (rule_extract_all t) _ r (from_extract_all t r) (
    by_either t (rule_extract_part t) _ r (from_extract_part t r) (
    by_either t (rule_extended t) _ r (from_extended t r) (
    by_either t (rule_ite t) None r (from_ite t r) nothing))))))))))))))))))))))) e
