-- The words of operators.
use Rattle.std.specs.Prelude.{ℕ, if◌then◌else◌, List, [], ◌∷◌, Option, Some, None, bytes_eq, codes}
use Rattle.bv_bits.specs.declared.Op.{Op}
use Rattle.bv_bits.specs.declared.Op.TheVariants.{Not, Neg, And, Or, Xor, Imp, Add, Sub, Mul, Shl, LShr, AShr, Eq, Ne, ULt, ULe, UGt, UGe, SLt, SLe, SGt, SGe, Concat, Extract, ZExt, SExt, Ite}
use Rattle.term_tree.specs.Terms.{Text}

-- ---- operators

-- how many arguments an operator has
abbrev pub arity : Op → ℕ
arity Not = 1
arity Neg = 1
arity (Extract hi lo) = 1
arity (ZExt to) = 1
arity (SExt to) = 1
arity Ite = 3
arity op = 2

-- the words of the operators without numbers
abbrev pub operators : List (Text × Op)
operators = (codes "not", Not) ∷ (codes "neg", Neg) ∷ (codes "and", And) ∷ (codes "or", Or) ∷ (codes "xor", Xor) ∷ (codes "imp", Imp)
    ∷ (codes "add", Add) ∷ (codes "sub", Sub) ∷ (codes "mul", Mul) ∷ (codes "shl", Shl) ∷ (codes "lshr", LShr) ∷ (codes "ashr", AShr)
    ∷ (codes "eq", Eq) ∷ (codes "ne", Ne) ∷ (codes "ult", ULt) ∷ (codes "ule", ULe) ∷ (codes "ugt", UGt) ∷ (codes "uge", UGe)
    ∷ (codes "slt", SLt) ∷ (codes "sle", SLe) ∷ (codes "sgt", SGt) ∷ (codes "sge", SGe) ∷ (codes "concat", Concat) ∷ (codes "ite", Ite) ∷ []

-- the operator that a word stands for in a list
abbrev pub operator_in : List (Text × Op) → Text → Option Op
operator_in [] x = None
operator_in (p ∷ ps) x = if bytes_eq x p.0 then Some p.1 else operator_in ps x

-- the operator without numbers of a word
unfoldable pub operator_of : Text → Option Op
operator_of x = operator_in operators x
