-- The derived comparison of operators and of values is equality.
use Rattle.std.proofs.Common.{◌≡◌, ℕ, true, rules}
use Rattle.bv_bits.specs.declared.Bits.{Bits}
use Rattle.bv_bits.specs.declared.Op.{Op}
use Rattle.bv_bits.specs.declared.Op.TheVariants.{Not, Neg, And, Or, Xor, Imp, Add, Sub, Mul, UDiv, URem, SDiv, SRem, Shl, LShr, AShr, Eq, Ne, ULt, ULe, UGt, UGe, SLt, SLe, SGt, SGe, Concat, Extract, ZExt, SExt, Ite}
use Rattle.bv_bits.specs.contracts.OpPartialEq.TheImpl as op_eq
use Rattle.bv_bits.specs.contracts.BitsPartialEq.TheImpl as bits_eq

-- ---- one variant at a time, since all at once are too many cases for one search

from_Not : (b : Op) → op_eq.eq-value.it Not b ≡ true → Not ≡ b
from_Not b h = search rules

from_Neg : (b : Op) → op_eq.eq-value.it Neg b ≡ true → Neg ≡ b
from_Neg b h = search rules

from_And : (b : Op) → op_eq.eq-value.it And b ≡ true → And ≡ b
from_And b h = search rules

from_Or : (b : Op) → op_eq.eq-value.it Or b ≡ true → Or ≡ b
from_Or b h = search rules

from_Xor : (b : Op) → op_eq.eq-value.it Xor b ≡ true → Xor ≡ b
from_Xor b h = search rules

from_Imp : (b : Op) → op_eq.eq-value.it Imp b ≡ true → Imp ≡ b
from_Imp b h = search rules

from_Add : (b : Op) → op_eq.eq-value.it Add b ≡ true → Add ≡ b
from_Add b h = search rules

from_Sub : (b : Op) → op_eq.eq-value.it Sub b ≡ true → Sub ≡ b
from_Sub b h = search rules

from_Mul : (b : Op) → op_eq.eq-value.it Mul b ≡ true → Mul ≡ b
from_Mul b h = search rules

from_UDiv : (b : Op) → op_eq.eq-value.it UDiv b ≡ true → UDiv ≡ b
from_UDiv b h = search rules

from_URem : (b : Op) → op_eq.eq-value.it URem b ≡ true → URem ≡ b
from_URem b h = search rules

from_SDiv : (b : Op) → op_eq.eq-value.it SDiv b ≡ true → SDiv ≡ b
from_SDiv b h = search rules

from_SRem : (b : Op) → op_eq.eq-value.it SRem b ≡ true → SRem ≡ b
from_SRem b h = search rules

from_Shl : (b : Op) → op_eq.eq-value.it Shl b ≡ true → Shl ≡ b
from_Shl b h = search rules

from_LShr : (b : Op) → op_eq.eq-value.it LShr b ≡ true → LShr ≡ b
from_LShr b h = search rules

from_AShr : (b : Op) → op_eq.eq-value.it AShr b ≡ true → AShr ≡ b
from_AShr b h = search rules

from_Eq : (b : Op) → op_eq.eq-value.it Eq b ≡ true → Eq ≡ b
from_Eq b h = search rules

from_Ne : (b : Op) → op_eq.eq-value.it Ne b ≡ true → Ne ≡ b
from_Ne b h = search rules

from_ULt : (b : Op) → op_eq.eq-value.it ULt b ≡ true → ULt ≡ b
from_ULt b h = search rules

from_ULe : (b : Op) → op_eq.eq-value.it ULe b ≡ true → ULe ≡ b
from_ULe b h = search rules

from_UGt : (b : Op) → op_eq.eq-value.it UGt b ≡ true → UGt ≡ b
from_UGt b h = search rules

from_UGe : (b : Op) → op_eq.eq-value.it UGe b ≡ true → UGe ≡ b
from_UGe b h = search rules

from_SLt : (b : Op) → op_eq.eq-value.it SLt b ≡ true → SLt ≡ b
from_SLt b h = search rules

from_SLe : (b : Op) → op_eq.eq-value.it SLe b ≡ true → SLe ≡ b
from_SLe b h = search rules

from_SGt : (b : Op) → op_eq.eq-value.it SGt b ≡ true → SGt ≡ b
from_SGt b h = search rules

from_SGe : (b : Op) → op_eq.eq-value.it SGe b ≡ true → SGe ≡ b
from_SGe b h = search rules

from_Concat : (b : Op) → op_eq.eq-value.it Concat b ≡ true → Concat ≡ b
from_Concat b h = search rules

from_Extract : (hi lo : ℕ) (b : Op) → op_eq.eq-value.it (Extract hi lo) b ≡ true → Extract hi lo ≡ b
from_Extract hi lo b h = search rules

from_ZExt : (to : ℕ) (b : Op) → op_eq.eq-value.it (ZExt to) b ≡ true → ZExt to ≡ b
from_ZExt to b h = search rules

from_SExt : (to : ℕ) (b : Op) → op_eq.eq-value.it (SExt to) b ≡ true → SExt to ≡ b
from_SExt to b h = search rules

from_Ite : (b : Op) → op_eq.eq-value.it Ite b ≡ true → Ite ≡ b
from_Ite b h = search rules

-- `a == b` on operators
pub op_eq-true : (a b : Op) → op_eq.eq-value.it a b ≡ true → a ≡ b
op_eq-true Not b h = from_Not b h
op_eq-true Neg b h = from_Neg b h
op_eq-true And b h = from_And b h
op_eq-true Or b h = from_Or b h
op_eq-true Xor b h = from_Xor b h
op_eq-true Imp b h = from_Imp b h
op_eq-true Add b h = from_Add b h
op_eq-true Sub b h = from_Sub b h
op_eq-true Mul b h = from_Mul b h
op_eq-true UDiv b h = from_UDiv b h
op_eq-true URem b h = from_URem b h
op_eq-true SDiv b h = from_SDiv b h
op_eq-true SRem b h = from_SRem b h
op_eq-true Shl b h = from_Shl b h
op_eq-true LShr b h = from_LShr b h
op_eq-true AShr b h = from_AShr b h
op_eq-true Eq b h = from_Eq b h
op_eq-true Ne b h = from_Ne b h
op_eq-true ULt b h = from_ULt b h
op_eq-true ULe b h = from_ULe b h
op_eq-true UGt b h = from_UGt b h
op_eq-true UGe b h = from_UGe b h
op_eq-true SLt b h = from_SLt b h
op_eq-true SLe b h = from_SLe b h
op_eq-true SGt b h = from_SGt b h
op_eq-true SGe b h = from_SGe b h
op_eq-true Concat b h = from_Concat b h
op_eq-true (Extract hi lo) b h = from_Extract hi lo b h
op_eq-true (ZExt to) b h = from_ZExt to b h
op_eq-true (SExt to) b h = from_SExt to b h
op_eq-true Ite b h = from_Ite b h

-- `a == b` on values
pub bits_eq-true : (a b : Bits) → bits_eq.eq-value.it a b ≡ true → a ≡ b
bits_eq-true a b h = search rules
