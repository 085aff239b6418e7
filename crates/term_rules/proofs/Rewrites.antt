-- The rules as a relation: which right side an application has, one form after the other.
use Rattle.std.proofs.Common.{◌≡◌, ℕ, ◌+◌, ◌-◌, ◌<◌, ◌≤◌, Bool, true, false, cond, [], ◌∷◌, Some, eqb}
use Rattle.bv_bits.specs.declared.Bits.{Bits}
use Rattle.bv_bits.specs.declared.Op.{Op}
use Rattle.bv_bits.specs.declared.Op.TheVariants.{Not, And, Or, Xor, Add, Sub, Mul, Shl, LShr, AShr, ULt, ULe, UGt, UGe, Concat, Extract, ZExt, SExt, Ite}
use Rattle.bv_bits.specs.Bits.{bit, apply_of}
use Rattle.term_tree.specs.Terms.{Tree, lit, one, two, three, width_of}
use Rattle.term_rules.specs.Rules.{Right, given, made_one, made_two, literal, is_literal, is_number, is_zero, is_ones, opposite, holds_of_same, negated}

-- an application, and what the first rule that fits puts in its place
pub data Rewrites : Tree → Right → Type 0 where
  -- rule 1
  one_literal : (op : Op) (a : Bits) → Rewrites (one op (lit a)) (given (lit (apply_of op (a ∷ []))))
  two_literals : (op : Op) (a b : Bits) → Rewrites (two op (lit a) (lit b)) (given (lit (apply_of op (a ∷ b ∷ []))))
  three_literals : (op : Op) (a b c : Bits) → Rewrites (three op (lit a) (lit b) (lit c)) (given (lit (apply_of op (a ∷ b ∷ c ∷ []))))
  -- rules 2 and 3
  not_not : (x : Tree) → Rewrites (one Not (one Not x)) (given x)
  not_relation : (op p : Op) (x y : Tree) → opposite op ≡ Some p → Rewrites (one Not (two op x y)) (made_two p (given x) (given y))
  -- rules 4, 5 and 6
  zero_and : (x y : Tree) → is_zero x ≡ true → Rewrites (two And x y) (given x)
  and_zero : (x y : Tree) → is_zero y ≡ true → Rewrites (two And x y) (given y)
  ones_and : (x y : Tree) → is_ones x ≡ true → Rewrites (two And x y) (given y)
  and_ones : (x y : Tree) → is_ones y ≡ true → Rewrites (two And x y) (given x)
  and_same : (x y : Tree) → x ≡ y → Rewrites (two And x y) (given x)
  -- rules 6, 7 and 8
  or_same : (x y : Tree) → x ≡ y → Rewrites (two Or x y) (given x)
  zero_or : (x y : Tree) → is_zero x ≡ true → Rewrites (two Or x y) (given y)
  or_zero : (x y : Tree) → is_zero y ≡ true → Rewrites (two Or x y) (given x)
  ones_or : (x y : Tree) → is_ones x ≡ true → Rewrites (two Or x y) (given x)
  or_ones : (x y : Tree) → is_ones y ≡ true → Rewrites (two Or x y) (given y)
  -- rule 9
  zero_xor : (x y : Tree) → is_zero x ≡ true → Rewrites (two Xor x y) (given y)
  xor_zero : (x y : Tree) → is_zero y ≡ true → Rewrites (two Xor x y) (given x)
  xor_same : (x y : Tree) → x ≡ y → Rewrites (two Xor x y) (given (literal (width_of x) 0))
  -- rules 10 to 13
  add_turned : (x y : Tree) → is_literal x ≡ true → is_literal y ≡ false → Rewrites (two Add x y) (made_two Add (given y) (given x))
  add_zero : (x y : Tree) → is_zero y ≡ true → Rewrites (two Add x y) (given x)
  add_literals : (x : Tree) (c d : Bits) → Rewrites (two Add (two Add x (lit c)) (lit d)) (made_two Add (given x) (given (lit (apply_of Add (c ∷ d ∷ [])))))
  add_out_of_second : (x y : Tree) (c : Bits) → Rewrites (two Add x (two Add y (lit c))) (made_two Add (made_two Add (given x) (given y)) (given (lit c)))
  add_out_of_first : (x y : Tree) (c : Bits) → is_literal y ≡ false → Rewrites (two Add (two Add x (lit c)) y) (made_two Add (made_two Add (given x) (given y)) (given (lit c)))
  -- rules 14, 15 and 16
  sub_literal : (x : Tree) (c : Bits) → Rewrites (two Sub x (lit c)) (made_two Add (given x) (given (negated c)))
  sub_same : (x y : Tree) → x ≡ y → Rewrites (two Sub x y) (given (literal (width_of x) 0))
  sub_left : (x y z : Tree) → x ≡ z → Rewrites (two Sub (two Add x y) z) (given y)
  sub_out_of_second : (x y : Tree) (c : Bits) → Rewrites (two Sub x (two Add y (lit c))) (made_two Add (made_two Sub (given x) (given y)) (given (negated c)))
  sub_out_of_first : (x y : Tree) (c : Bits) → is_literal y ≡ false → Rewrites (two Sub (two Add x (lit c)) y) (made_two Add (made_two Sub (given x) (given y)) (given (lit c)))
  -- rule 17
  zero_mul : (x y : Tree) → is_zero x ≡ true → Rewrites (two Mul x y) (given x)
  mul_zero : (x y : Tree) → is_zero y ≡ true → Rewrites (two Mul x y) (given y)
  one_mul : (x y : Tree) → is_number 1 x ≡ true → Rewrites (two Mul x y) (given y)
  mul_one : (x y : Tree) → is_number 1 y ≡ true → Rewrites (two Mul x y) (given x)
  -- rule 18
  shl_zero : (x y : Tree) → is_zero y ≡ true → Rewrites (two Shl x y) (given x)
  lshr_zero : (x y : Tree) → is_zero y ≡ true → Rewrites (two LShr x y) (given x)
  ashr_zero : (x y : Tree) → is_zero y ≡ true → Rewrites (two AShr x y) (given x)
  -- rules 19 and 20
  relation_same : (op : Op) (b : Bool) (x y : Tree) → x ≡ y → holds_of_same op ≡ Some b → Rewrites (two op x y) (given (literal 1 (bit b)))
  below_zero : (x y : Tree) → is_zero y ≡ true → Rewrites (two ULt x y) (given (literal 1 0))
  zero_above : (x y : Tree) → is_zero x ≡ true → Rewrites (two UGt x y) (given (literal 1 0))
  at_least_zero : (x y : Tree) → is_zero y ≡ true → Rewrites (two UGe x y) (given (literal 1 1))
  zero_at_most : (x y : Tree) → is_zero x ≡ true → Rewrites (two ULe x y) (given (literal 1 1))
  -- rules 21, 22 and 23
  extract_all : (hi lo : ℕ) (x : Tree) → lo ≡ 0 → hi + 1 ≡ width_of x → Rewrites (one (Extract hi lo) x) (given x)
  extract_extract : (hi lo h l : ℕ) (x : Tree) → Rewrites (one (Extract hi lo) (one (Extract h l) x)) (made_one (Extract (hi + l) (lo + l)) (given x))
  extract_low : (hi lo : ℕ) (x y : Tree) → hi < width_of y → Rewrites (one (Extract hi lo) (two Concat x y)) (made_one (Extract hi lo) (given y))
  extract_high : (hi lo : ℕ) (x y : Tree) → width_of y ≤ lo → Rewrites (one (Extract hi lo) (two Concat x y)) (made_one (Extract (hi - width_of y) (lo - width_of y)) (given x))
  extract_zext : (hi lo to : ℕ) (x : Tree) → hi < width_of x → Rewrites (one (Extract hi lo) (one (ZExt to) x)) (made_one (Extract hi lo) (given x))
  zext_own : (to : ℕ) (x : Tree) → to ≡ width_of x → Rewrites (one (ZExt to) x) (given x)
  sext_own : (to : ℕ) (x : Tree) → to ≡ width_of x → Rewrites (one (SExt to) x) (given x)
  -- rule 24
  ite_literal : (t : Bits) (x y : Tree) → Rewrites (three Ite (lit t) x y) (given (cond (eqb t.value 1) x y))
  ite_same : (t x y : Tree) → x ≡ y → Rewrites (three Ite t x y) (given x)
