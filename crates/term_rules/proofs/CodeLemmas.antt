-- What the code's tests of terms say.
use Rattle.std.proofs.Common.{◌≡◌, ◌≢◌, true, length, ℕ, ◌-◌, ◌/◌, ◌^◌, refl, ap, sym, ◌∙◌, nat_eq, false, ◌<◌, List, [], ◌∷◌, Option, Some, None, IsSome, rules, arith}
use Rattle.std.proofs.lemmas.Bool.Decides.{nat_tests}
use Rattle.bv_bits.specs.declared.Bits.{Bits}
use Rattle.bv_bits.specs.declared.Op.{Op}
use Rattle.bv_bits.specs.declared.Op.TheVariants.{Add, Sub, Extract}
use Rattle.bv_bits.specs.Bits.{IsBits, result_width_of, IsWidth}
use Rattle.bv_bits.proofs.WordLemmas.{ones_of}
use Rattle.term_tree.specs.Terms.{Text, Tree, lit, var, one, two, three, sel, IsTyped, applied, same_tree}
use Rattle.term_rules.specs.Rules.{Right, is_ones, is_zero, is_literal, rule_literals, rule_of, or_else, rule_add_literals, rule_add_out, rule_sub_literal, rule_sub_same, rule_sub_out}
use Rattle.term_rules.specs.Shapes.{literal_of, is_other}

-- a word of all ones, cut to a literal's width, is the literal exactly where its bits are all 1
pub ones_literal : (t : Tree) (b : Bits) → t ≡ lit b → IsTyped t → nat_eq b.value ((2 ^ 128 - 1) / 2 ^ (128 - b.width)) ≡ is_ones t
ones_literal t b e h =
    let fits : IsBits b = rw e at h in
    ap (nat_eq b.value) (ones_of b.width fits.at_most) ∙ ap is_ones (sym e)

-- the rule for two literals fits no sum whose second part is no literal
no_literals : (x y : Tree) → literal_of y ≡ None → rule_add_literals (two Add x y) ≡ None
no_literals x y h = search rules

-- the rule for literals fits no application whose first argument is no literal
no_values : (op : Op) (x y : Tree) → literal_of x ≡ None → rule_literals (two op x y) ≡ None
no_values op (lit b) y h = absurd (cc)
no_values op (var z w) y h = refl
no_values op (one o a) y h = refl
no_values op (two o a b) y h = refl
no_values op (three o a b c) y h = refl
no_values op (sel f i) y h = refl

-- what is no literal isn't taken for one
no_literal : (x : Tree) → literal_of x ≡ None → is_literal x ≡ false
no_literal (lit b) h = absurd (cc)
no_literal (var z w) h = refl
no_literal (one o a) h = refl
no_literal (two o a b) h = refl
no_literal (three o a b c) h = refl
no_literal (sel f i) h = refl

-- what is no literal isn't 0
no_zero : (x : Tree) → literal_of x ≡ None → is_zero x ≡ false
no_zero (lit b) h = absurd (cc)
no_zero (var z w) h = refl
no_zero (one o a) h = refl
no_zero (two o a b) h = refl
no_zero (three o a b c) h = refl
no_zero (sel f i) h = refl

-- nothing after a right side
or_else_none : (o : Option Right) → or_else o None ≡ o
or_else_none (Some r) = refl
or_else_none None = refl

-- the sum of two terms that are no literals
pub sum_at_open : (x y : Tree) → literal_of x ≡ None → literal_of y ≡ None → rule_add_out (two Add x y) ≡ rule_of (two Add x y)
sum_at_open x y hx hy =
    rw (no_values Add x y hx, no_literal x hx, no_zero y hy, no_literals x y hy) (sym (or_else_none _))

-- no literal is taken from a term
not_taken : (x y : Tree) → literal_of y ≡ None → rule_sub_literal (two Sub x y) ≡ None
not_taken x (lit b) h = absurd (cc)
not_taken x (var z w) h = refl
not_taken x (one o a) h = refl
not_taken x (two o a b) h = refl
not_taken x (three o a b c) h = refl
not_taken x (sel f i) h = refl

-- the difference of a term and one that is no literal
pub difference_at_open : (x y : Tree) → rule_literals (two Sub x y) ≡ None → literal_of y ≡ None → or_else (rule_sub_same (two Sub x y)) (rule_sub_out (two Sub x y)) ≡ rule_of (two Sub x y)
difference_at_open x y h hy =
    rw (h, not_taken x y hy) (ap (or_else (rule_sub_same (two Sub x y))) (sym (or_else_none (rule_sub_out (two Sub x y)))))

-- the bits that are taken are there
pub extract_fits : (hi lo w : ℕ) → IsSome (result_width_of (Extract hi lo) (w ∷ [])) → hi < w
extract_fits hi lo w h = grind (arith, nat_tests)

-- ---- terms of different forms

pub lit_app : (b : Bits) (op : Op) (l : List Tree) → same_tree (lit b) (applied op l) ≡ false
lit_app b op [] = refl
lit_app b op (a ∷ []) = refl
lit_app b op (a ∷ c ∷ []) = refl
lit_app b op (a ∷ c ∷ d ∷ []) = refl
lit_app b op (a ∷ c ∷ d ∷ e ∷ l) = refl

pub app_lit : (b : Bits) (op : Op) (l : List Tree) → same_tree (applied op l) (lit b) ≡ false
app_lit b op [] = refl
app_lit b op (a ∷ []) = refl
app_lit b op (a ∷ c ∷ []) = refl
app_lit b op (a ∷ c ∷ d ∷ []) = refl
app_lit b op (a ∷ c ∷ d ∷ e ∷ l) = refl

pub sel_app : (f : Text) (i : Tree) (op : Op) (l : List Tree) → same_tree (sel f i) (applied op l) ≡ false
sel_app f i op [] = refl
sel_app f i op (a ∷ []) = refl
sel_app f i op (a ∷ c ∷ []) = refl
sel_app f i op (a ∷ c ∷ d ∷ []) = refl
sel_app f i op (a ∷ c ∷ d ∷ e ∷ l) = refl

pub app_sel : (f : Text) (i : Tree) (op : Op) (l : List Tree) → same_tree (applied op l) (sel f i) ≡ false
app_sel f i op [] = refl
app_sel f i op (a ∷ []) = refl
app_sel f i op (a ∷ c ∷ []) = refl
app_sel f i op (a ∷ c ∷ d ∷ []) = refl
app_sel f i op (a ∷ c ∷ d ∷ e ∷ l) = refl

-- what stands for no term isn't typed
blank_untyped : IsWidth 0 → ⊥
blank_untyped h = omega (arith, h.positive)

pub var_app : (x : Text) (w : ℕ) (op : Op) (l : List Tree) → IsTyped (applied op l) → same_tree (var x w) (applied op l) ≡ false
var_app x w op [] h = absurd (blank_untyped h)
var_app x w op (a ∷ []) h = refl
var_app x w op (a ∷ c ∷ []) h = refl
var_app x w op (a ∷ c ∷ d ∷ []) h = refl
var_app x w op (a ∷ c ∷ d ∷ e ∷ l) h = absurd (blank_untyped h)

pub app_var : (x : Text) (w : ℕ) (op : Op) (l : List Tree) → IsTyped (applied op l) → same_tree (applied op l) (var x w) ≡ false
app_var x w op [] h = absurd (blank_untyped h)
app_var x w op (a ∷ []) h = refl
app_var x w op (a ∷ c ∷ []) h = refl
app_var x w op (a ∷ c ∷ d ∷ []) h = refl
app_var x w op (a ∷ c ∷ d ∷ e ∷ l) h = absurd (blank_untyped h)

-- applications to different numbers of arguments
pub app_lengths : (o p : Op) (l m : List Tree) → IsTyped (applied o l) → IsTyped (applied p m) → length l ≢ length m → same_tree (applied o l) (applied p m) ≡ false
app_lengths o p [] m h k d = absurd (blank_untyped h)
app_lengths o p (a ∷ []) [] h k d = absurd (blank_untyped k)
app_lengths o p (a ∷ []) (b ∷ []) h k d = absurd (d refl)
app_lengths o p (a ∷ []) (b ∷ c ∷ []) h k d = refl
app_lengths o p (a ∷ []) (b ∷ c ∷ e ∷ []) h k d = refl
app_lengths o p (a ∷ []) (b ∷ c ∷ e ∷ f ∷ m) h k d = absurd (blank_untyped k)
app_lengths o p (a ∷ g ∷ []) [] h k d = absurd (blank_untyped k)
app_lengths o p (a ∷ g ∷ []) (b ∷ []) h k d = refl
app_lengths o p (a ∷ g ∷ []) (b ∷ c ∷ []) h k d = absurd (d refl)
app_lengths o p (a ∷ g ∷ []) (b ∷ c ∷ e ∷ []) h k d = refl
app_lengths o p (a ∷ g ∷ []) (b ∷ c ∷ e ∷ f ∷ m) h k d = absurd (blank_untyped k)
app_lengths o p (a ∷ g ∷ i ∷ []) [] h k d = absurd (blank_untyped k)
app_lengths o p (a ∷ g ∷ i ∷ []) (b ∷ []) h k d = refl
app_lengths o p (a ∷ g ∷ i ∷ []) (b ∷ c ∷ []) h k d = refl
app_lengths o p (a ∷ g ∷ i ∷ []) (b ∷ c ∷ e ∷ []) h k d = absurd (d refl)
app_lengths o p (a ∷ g ∷ i ∷ []) (b ∷ c ∷ e ∷ f ∷ m) h k d = absurd (blank_untyped k)
app_lengths o p (a ∷ g ∷ i ∷ j ∷ l) m h k d = absurd (blank_untyped h)

-- an operator at three arguments is neither a literal nor at one or two
pub three_other : (op : Op) (l : List Tree) → length l ≡ 3 → is_other (applied op l) ≡ true
three_other op [] h = absurd (cc)
three_other op (a ∷ []) h = absurd (cc)
three_other op (a ∷ b ∷ []) h = absurd (cc)
three_other op (a ∷ b ∷ c ∷ []) h = refl
three_other op (a ∷ b ∷ c ∷ d ∷ l) h = absurd (omega arith)
