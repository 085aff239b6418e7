-- The derived comparison of operators is that of the definitions.
use Rattle.std.proofs.Common.{◌≡◌, Bool, true, false, refl, sym, ap, ◌∙◌, eq-eqb, rules}
use Rattle.std.proofs.lemmas.Bool.{and_from}
use Rattle.bv_bits.specs.declared.Op.{Op}
use Rattle.bv_bits.specs.declared.Op.TheVariants.{Not, Neg, And, Or, Xor, Imp, Add, Sub, Mul, UDiv, URem, SDiv, SRem, Shl, LShr, AShr, Eq, Ne, ULt, ULe, UGt, UGe, SLt, SLe, SGt, SGe, Concat, Extract, ZExt, SExt, Ite}
use Rattle.bv_bits.specs.contracts.OpPartialEq.TheImpl as op_eq
use Rattle.bv_bits.proofs.EqualityLemmas.{op_eq-true}
use Rattle.term_tree.specs.Terms.{same_op}
use Rattle.term_tree.proofs.SameLemmas.{same_op_is, op_itself}

-- an operator is the same as itself
op_eq_itself : (a : Op) → op_eq.eq-value.it a a ≡ true
op_eq_itself Not = refl
op_eq_itself Neg = refl
op_eq_itself And = refl
op_eq_itself Or = refl
op_eq_itself Xor = refl
op_eq_itself Imp = refl
op_eq_itself Add = refl
op_eq_itself Sub = refl
op_eq_itself Mul = refl
op_eq_itself UDiv = refl
op_eq_itself URem = refl
op_eq_itself SDiv = refl
op_eq_itself SRem = refl
op_eq_itself Shl = refl
op_eq_itself LShr = refl
op_eq_itself AShr = refl
op_eq_itself Eq = refl
op_eq_itself Ne = refl
op_eq_itself ULt = refl
op_eq_itself ULe = refl
op_eq_itself UGt = refl
op_eq_itself UGe = refl
op_eq_itself SLt = refl
op_eq_itself SLe = refl
op_eq_itself SGt = refl
op_eq_itself SGe = refl
op_eq_itself Concat = refl
op_eq_itself Ite = refl
op_eq_itself (Extract hi lo) = search (rules, and_from, eq-eqb)
op_eq_itself (ZExt to) = search (rules, eq-eqb)
op_eq_itself (SExt to) = search (rules, eq-eqb)

-- two truths, each of which gives the other
alike : (p q : Bool) → (p ≡ true → q ≡ true) → (q ≡ true → p ≡ true) → p ≡ q
alike true true h k = refl
alike false false h k = refl
alike true false h k = sym (h refl)
alike false true h k = k refl

-- the comparison of the code is that of the definitions
pub op_same : (a b : Op) → op_eq.eq-value.it a b ≡ same_op a b
op_same a b =
    alike (op_eq.eq-value.it a b) (same_op a b)
    (λ h. ap (same_op a) (sym (op_eq-true a b h)) ∙ op_itself a)
    (λ h. ap (op_eq.eq-value.it a) (sym (same_op_is a b h)) ∙ op_eq_itself a)
