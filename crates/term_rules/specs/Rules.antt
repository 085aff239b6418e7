-- The rewrite rules of applications, in order: the first that fits says what stands in place of an application.
use Rattle.std.specs.Prelude.{ℕ, ◌+◌, ◌-◌, Bool, true, false, ◌&&◌, if◌then◌else◌, List, [], ◌∷◌, Option, Some, None, nat_eq, nat_lt, nat_le}
use Rattle.bv_bits.specs.declared.Bits.{Bits}
use Rattle.bv_bits.specs.declared.Op.{Op}
use Rattle.bv_bits.specs.declared.Op.TheVariants.{Not, Neg, And, Or, Xor, Add, Sub, Mul, Shl, LShr, AShr, Eq, Ne, ULt, ULe, UGt, UGe, SLt, SLe, SGt, SGe, Concat, Extract, ZExt, SExt, Ite}
use Rattle.bv_bits.specs.Bits.{ones, bit, apply_of}
use Rattle.term_tree.specs.Terms.{Tree, lit, one, two, three, width_of, same_tree}

-- ---- what stands on the right of a rule

-- a term that is there, or an application that is made in turn
pub data Right : Type 0 where
  -- a term that is there
  given : (t : Tree) → Right
  -- an operator at one argument, made in turn
  made_one : (op : Op) → (a : Right) → Right
  -- an operator at two arguments, made in turn
  made_two : (op : Op) → (a b : Right) → Right

-- the right side where the test holds
abbrev pub right_if : Bool → Right → Option Right
right_if b r = if b then Some r else None

-- the first right side of two
abbrev pub or_else : Option Right → Option Right → Option Right
or_else (Some r) o = Some r
or_else None o = o

-- the first right side of a list
abbrev pub first_right : List (Option Right) → Option Right
first_right [] = None
first_right (o ∷ rest) = or_else o (first_right rest)

-- ---- words of the rules

-- the literal of this width and number
abbrev pub literal : ℕ → ℕ → Tree
literal w n = lit (record { width = w; value = n })

-- whether a term is a literal
abbrev pub is_literal : Tree → Bool
is_literal (lit b) = true
is_literal t = false

-- whether a term is the literal of this number
abbrev pub is_number : ℕ → Tree → Bool
is_number n (lit b) = nat_eq b.value n
is_number n t = false

-- whether a term is the literal 0
abbrev pub is_zero : Tree → Bool
is_zero t = is_number 0 t

-- whether a term is the literal whose bits are all 1
abbrev pub is_ones : Tree → Bool
is_ones (lit b) = nat_eq b.value (ones b.width)
is_ones t = false

-- the right side that is one of two terms, where the test holds for the other
abbrev pub other_if : (Tree → Bool) → Tree → Tree → Option Right
other_if test x y = or_else (right_if (test x) (given y)) (right_if (test y) (given x))

-- the right side that is the one of two terms for which the test holds
abbrev pub that_if : (Tree → Bool) → Tree → Tree → Option Right
that_if test x y = or_else (right_if (test x) (given x)) (right_if (test y) (given y))

-- the relation that holds exactly where this one doesn't (rule 3)
abbrev pub opposite : Op → Option Op
opposite Eq = Some Ne
opposite Ne = Some Eq
opposite ULt = Some UGe
opposite UGe = Some ULt
opposite ULe = Some UGt
opposite UGt = Some ULe
opposite SLt = Some SGe
opposite SGe = Some SLt
opposite SLe = Some SGt
opposite SGt = Some SLe
opposite op = None

-- whether a relation holds of x and x (rule 19)
abbrev pub holds_of_same : Op → Option Bool
holds_of_same Eq = Some true
holds_of_same ULe = Some true
holds_of_same UGe = Some true
holds_of_same SLe = Some true
holds_of_same SGe = Some true
holds_of_same Ne = Some false
holds_of_same ULt = Some false
holds_of_same UGt = Some false
holds_of_same SLt = Some false
holds_of_same SGt = Some false
holds_of_same op = None

-- the literal -c
abbrev pub negated : Bits → Tree
negated c = lit (apply_of Neg (c ∷ []))

-- an opposite relation of two terms, where there is one (rule 3)
abbrev pub turned : Option Op → Tree → Tree → Option Right
turned (Some op) x y = Some (made_two op (given x) (given y))
turned None x y = None

-- op(x, add(y, c)) is add(op(x, y), c) (rule 13)
abbrev pub out_of_second : Op → Tree → Tree → Option Right
out_of_second op x (two Add y (lit c)) = Some (made_two Add (made_two op (given x) (given y)) (given (lit c)))
out_of_second op x t = None

-- op(add(x, c), y) is add(op(x, y), c) (rules 13 and 16)
abbrev pub out_of_first : Op → Tree → Tree → Option Right
out_of_first op (two Add x (lit c)) y = Some (made_two Add (made_two op (given x) (given y)) (given (lit c)))
out_of_first op t y = None

-- sub(x, add(y, c)) is add(sub(x, y), -c) (rule 16)
abbrev pub taken_from_second : Tree → Tree → Option Right
taken_from_second x (two Add y (lit c)) = Some (made_two Add (made_two Sub (given x) (given y)) (given (negated c)))
taken_from_second x t = None

-- sub(add(x, y), x) is y (rule 15)
abbrev pub left_over : Tree → Tree → Option Right
left_over (two Add x y) t = right_if (same_tree x t) (given y)
left_over s t = None

-- a truth as a literal, where the test holds and there is one
abbrev pub truth_if : Bool → Option Bool → Option Right
truth_if test (Some b) = right_if test (given (literal 1 (bit b)))
truth_if test None = None

-- the branch that a literal test takes (rule 24)
abbrev pub branch_of : Tree → Tree → Tree → Option Right
branch_of (lit t) x y = Some (given (if nat_eq t.value 1 then x else y))
branch_of t x y = None

-- ---- the rules, in order, each with its number

-- rule 1: all arguments are literals: the value
abbrev pub rule_literals : Tree → Option Right
rule_literals (one op (lit a)) = Some (given (lit (apply_of op (a ∷ []))))
rule_literals (two op (lit a) (lit b)) = Some (given (lit (apply_of op (a ∷ b ∷ []))))
rule_literals (three op (lit a) (lit b) (lit c)) = Some (given (lit (apply_of op (a ∷ b ∷ c ∷ []))))
rule_literals t = None

-- rule 2: not(not(x)) is x
abbrev pub rule_not_not : Tree → Option Right
rule_not_not (one Not (one Not x)) = Some (given x)
rule_not_not t = None

-- rule 3: not of a relation is the opposite relation
abbrev pub rule_not_relation : Tree → Option Right
rule_not_relation (one Not (two op x y)) = turned (opposite op) x y
rule_not_relation t = None

-- rule 4: and with 0 is 0
abbrev pub rule_and_zero : Tree → Option Right
rule_and_zero (two And x y) = that_if is_zero x y
rule_and_zero t = None

-- rule 5: and with ones is the other
abbrev pub rule_and_ones : Tree → Option Right
rule_and_ones (two And x y) = other_if is_ones x y
rule_and_ones t = None

-- rule 6: and(x, x) and or(x, x) are x
abbrev pub rule_and_or_same : Tree → Option Right
rule_and_or_same (two And x y) = right_if (same_tree x y) (given x)
rule_and_or_same (two Or x y) = right_if (same_tree x y) (given x)
rule_and_or_same t = None

-- rule 7: or with 0 is the other
abbrev pub rule_or_zero : Tree → Option Right
rule_or_zero (two Or x y) = other_if is_zero x y
rule_or_zero t = None

-- rule 8: or with ones is ones
abbrev pub rule_or_ones : Tree → Option Right
rule_or_ones (two Or x y) = that_if is_ones x y
rule_or_ones t = None

-- rule 9: xor with 0 is the other; xor(x, x) is 0
abbrev pub rule_xor : Tree → Option Right
rule_xor (two Xor x y) = or_else (other_if is_zero x y) (right_if (same_tree x y) (given (literal (width_of x) 0)))
rule_xor t = None

-- rule 10: add(c, x) is add(x, c)
abbrev pub rule_add_literal_first : Tree → Option Right
rule_add_literal_first (two Add x y) = right_if (is_literal x) (made_two Add (given y) (given x))
rule_add_literal_first t = None

-- rule 11: add(x, 0) is x
abbrev pub rule_add_zero : Tree → Option Right
rule_add_zero (two Add x y) = right_if (is_zero y) (given x)
rule_add_zero t = None

-- rule 12: add(add(x, c), d) is add(x, c + d)
abbrev pub rule_add_literals : Tree → Option Right
rule_add_literals (two Add (two Add x (lit c)) (lit d)) = Some (made_two Add (given x) (given (lit (apply_of Add (c ∷ d ∷ [])))))
rule_add_literals t = None

-- rule 13: add(x, add(y, c)) is add(add(x, y), c); add(add(x, c), y) is add(add(x, y), c)
abbrev pub rule_add_out : Tree → Option Right
rule_add_out (two Add x y) = or_else (out_of_second Add x y) (out_of_first Add x y)
rule_add_out t = None

-- rule 14: sub(x, c) is add(x, -c)
abbrev pub rule_sub_literal : Tree → Option Right
rule_sub_literal (two Sub x (lit c)) = Some (made_two Add (given x) (given (negated c)))
rule_sub_literal t = None

-- rule 15: sub(x, x) is 0; sub(add(x, y), x) is y
abbrev pub rule_sub_same : Tree → Option Right
rule_sub_same (two Sub x y) = or_else (right_if (same_tree x y) (given (literal (width_of x) 0))) (left_over x y)
rule_sub_same t = None

-- rule 16: sub(x, add(y, c)) is add(sub(x, y), -c); sub(add(x, c), y) is add(sub(x, y), c)
abbrev pub rule_sub_out : Tree → Option Right
rule_sub_out (two Sub x y) = or_else (taken_from_second x y) (out_of_first Sub x y)
rule_sub_out t = None

-- rule 17: mul with 0 is 0; mul with 1 is the other
abbrev pub rule_mul : Tree → Option Right
rule_mul (two Mul x y) = or_else (that_if is_zero x y) (other_if (is_number 1) x y)
rule_mul t = None

-- rule 18: shl, lshr, ashr by the literal 0 is x
abbrev pub rule_shift_zero : Tree → Option Right
rule_shift_zero (two Shl x y) = right_if (is_zero y) (given x)
rule_shift_zero (two LShr x y) = right_if (is_zero y) (given x)
rule_shift_zero (two AShr x y) = right_if (is_zero y) (given x)
rule_shift_zero t = None

-- rule 19: a relation of x with itself: eq, ule, uge, sle, sge are 1, the others 0
abbrev pub rule_relation_same : Tree → Option Right
rule_relation_same (two op x y) = truth_if (same_tree x y) (holds_of_same op)
rule_relation_same t = None

-- rule 20: ult(x, 0) and ugt(0, x) are 0; uge(x, 0) and ule(0, x) are 1
abbrev pub rule_relation_zero : Tree → Option Right
rule_relation_zero (two ULt x y) = right_if (is_zero y) (given (literal 1 0))
rule_relation_zero (two UGt x y) = right_if (is_zero x) (given (literal 1 0))
rule_relation_zero (two UGe x y) = right_if (is_zero y) (given (literal 1 1))
rule_relation_zero (two ULe x y) = right_if (is_zero x) (given (literal 1 1))
rule_relation_zero t = None

-- rule 21: extract of all bits is x
abbrev pub rule_extract_all : Tree → Option Right
rule_extract_all (one (Extract hi lo) x) = right_if (nat_eq lo 0 && nat_eq (hi + 1) (width_of x)) (given x)
rule_extract_all t = None

-- rule 22: extract hi lo of extract h l of x is extract hi+l lo+l of x; extract of a concat that lies within one part is
-- extract of that part
abbrev pub rule_extract_part : Tree → Option Right
rule_extract_part (one (Extract hi lo) (one (Extract h l) x)) = Some (made_one (Extract (hi + l) (lo + l)) (given x))
rule_extract_part (one (Extract hi lo) (two Concat x y)) = or_else (right_if (nat_lt hi (width_of y)) (made_one (Extract hi lo) (given y))) (right_if (nat_le (width_of y) lo) (made_one (Extract (hi - width_of y) (lo - width_of y)) (given x)))
rule_extract_part t = None

-- rule 23: extract hi lo of zext of x with hi below x's width is extract hi lo of x; zext and sext to the own width is x
abbrev pub rule_extended : Tree → Option Right
rule_extended (one (Extract hi lo) (one (ZExt to) x)) = right_if (nat_lt hi (width_of x)) (made_one (Extract hi lo) (given x))
rule_extended (one (ZExt to) x) = right_if (nat_eq to (width_of x)) (given x)
rule_extended (one (SExt to) x) = right_if (nat_eq to (width_of x)) (given x)
rule_extended t = None

-- rule 24: ite with a literal test is that branch; ite(t, x, x) is x
abbrev pub rule_ite : Tree → Option Right
rule_ite (three Ite t x y) = or_else (branch_of t x y) (right_if (same_tree x y) (given x))
rule_ite t = None

-- ---- the first rule that fits

-- the right side of the first rule that fits an application, where one does
abbrev pub rule_of : Tree → Option Right
rule_of t = first_right (
    rule_literals t ∷ rule_not_not t ∷ rule_not_relation t ∷ rule_and_zero t ∷ rule_and_ones t ∷ rule_and_or_same t
    ∷ rule_or_zero t ∷ rule_or_ones t ∷ rule_xor t ∷ rule_add_literal_first t ∷ rule_add_zero t ∷ rule_add_literals t
    ∷ rule_add_out t ∷ rule_sub_literal t ∷ rule_sub_same t ∷ rule_sub_out t ∷ rule_mul t ∷ rule_shift_zero t
    ∷ rule_relation_same t ∷ rule_relation_zero t ∷ rule_extract_all t ∷ rule_extract_part t ∷ rule_extended t
    ∷ rule_ite t ∷ [])
