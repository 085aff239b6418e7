-- What the operators give at the corners of their table, each a fact of its own.
use Rattle.std.specs.Prelude.{◌≡◌, ◌≢◌, ℕ, ◌+◌, ◌-◌, ◌^◌, ◌<◌, ◌≤◌, ◌↔◌, ◌≤ℤ◌, ◌<ℤ◌, [], ◌∷◌}
use Rattle.bv_bits.specs.declared.Bits.{Bits}
use Rattle.bv_bits.specs.declared.Op.TheVariants.{Neg, Imp, Add, Sub, UDiv, URem, SDiv, SRem, Shl, LShr, AShr, Eq, Ne, ULt, ULe, UGt, UGe, SLt, SLe, SGt, SGe, Extract, ZExt, SExt, Ite}
use Rattle.bv_bits.specs.Bits.{IsBits, ones, signed, sign_bits, number_of}

-- ---- division by zero

-- x / 0 is all ones
abbrev pub UDivByZero : Type 0
UDivByZero = (a b : Bits) → b.value ≡ 0 → number_of UDiv (a ∷ b ∷ []) ≡ ones a.width

-- the rest of x by 0 is x
abbrev pub URemByZero : Type 0
URemByZero = (a b : Bits) → b.value ≡ 0 → number_of URem (a ∷ b ∷ []) ≡ a.value

-- s(x) / 0 is all ones
abbrev pub SDivByZero : Type 0
SDivByZero = (a b : Bits) → b.value ≡ 0 → number_of SDiv (a ∷ b ∷ []) ≡ ones a.width

-- the rest of s(x) by 0 is x
abbrev pub SRemByZero : Type 0
SRemByZero = (a b : Bits) → b.value ≡ 0 → number_of SRem (a ∷ b ∷ []) ≡ a.value

-- ---- the least signed number by -1: its quotient is no number of the width

-- its quotient is itself
abbrev pub SDivOfLeast : Type 0
SDivOfLeast =
    (a b : Bits) → IsBits a → a.value ≡ 2 ^ (a.width - 1) → b.value ≡ ones a.width → number_of SDiv (a ∷ b ∷ []) ≡ a.value

-- it leaves no rest
abbrev pub SRemOfLeast : Type 0
SRemOfLeast =
    (a b : Bits) → IsBits a → a.value ≡ 2 ^ (a.width - 1) → b.value ≡ ones a.width → number_of SRem (a ∷ b ∷ []) ≡ 0

-- ---- shifts by the width or more, and by nothing

-- no bit is left
abbrev pub ShlPastWidth : Type 0
ShlPastWidth = (a b : Bits) → a.width ≤ b.value → number_of Shl (a ∷ b ∷ []) ≡ 0

-- no bit is left
abbrev pub LShrPastWidth : Type 0
LShrPastWidth = (a b : Bits) → a.width ≤ b.value → number_of LShr (a ∷ b ∷ []) ≡ 0

-- the sign bit is left at each place
abbrev pub AShrPastWidth : Type 0
AShrPastWidth = (a b : Bits) → a.width ≤ b.value → number_of AShr (a ∷ b ∷ []) ≡ sign_bits a.width a.value

-- shl by 0 gives x
abbrev pub ShlByZero : Type 0
ShlByZero = (a b : Bits) → IsBits a → b.value ≡ 0 → number_of Shl (a ∷ b ∷ []) ≡ a.value

-- lshr by 0 gives x
abbrev pub LShrByZero : Type 0
LShrByZero = (a b : Bits) → IsBits a → b.value ≡ 0 → number_of LShr (a ∷ b ∷ []) ≡ a.value

-- ashr by 0 gives x
abbrev pub AShrByZero : Type 0
AShrByZero = (a b : Bits) → IsBits a → b.value ≡ 0 → number_of AShr (a ∷ b ∷ []) ≡ a.value

-- ---- sums and differences, within the width and past it

-- -0 is 0
abbrev pub NegOfZero : Type 0
NegOfZero = (a : Bits) → a.value ≡ 0 → number_of Neg (a ∷ []) ≡ 0

-- a sum that fits is the sum
abbrev pub AddWithin : Type 0
AddWithin = (a b : Bits) → a.value + b.value < 2 ^ a.width → number_of Add (a ∷ b ∷ []) ≡ a.value + b.value

-- a sum that does not fit lacks 2 ^ w
abbrev pub AddPast : Type 0
AddPast =
    (a b : Bits) → IsBits a → IsBits b → a.width ≡ b.width → 2 ^ a.width ≤ a.value + b.value → number_of Add (a ∷ b ∷ []) + 2 ^ a.width ≡ a.value + b.value

-- x - y for y at most x
abbrev pub SubWithin : Type 0
SubWithin =
    (a b : Bits) → IsBits a → b.value ≤ a.value → number_of Sub (a ∷ b ∷ []) + b.value ≡ a.value

-- x - y for y above x has 2 ^ w more
abbrev pub SubPast : Type 0
SubPast =
    (a b : Bits) → IsBits a → IsBits b → a.width ≡ b.width → a.value < b.value → number_of Sub (a ∷ b ∷ []) + b.value ≡ a.value + 2 ^ a.width

-- ---- a choice

-- the second where the first is 1
abbrev pub IteAtOne : Type 0
IteAtOne = (t a b : Bits) → t.value ≡ 1 → number_of Ite (t ∷ a ∷ b ∷ []) ≡ a.value

-- the third where the first is not 1
abbrev pub IteElse : Type 0
IteElse = (t a b : Bits) → t.value ≢ 1 → number_of Ite (t ∷ a ∷ b ∷ []) ≡ b.value

-- ---- truth values

-- the answer is 1 exactly where P holds, and 0 exactly where Q does
abbrev pub Tells : ℕ → Type 0 → Type 0 → Type 0
Tells answer P Q = ((answer ≡ 1) ↔ P) × ((answer ≡ 0) ↔ Q)

-- x equals y
abbrev pub EqTells : Type 0
EqTells = (a b : Bits) → Tells (number_of Eq (a ∷ b ∷ [])) (a.value ≡ b.value) (a.value ≢ b.value)

-- x differs from y
abbrev pub NeTells : Type 0
NeTells = (a b : Bits) → Tells (number_of Ne (a ∷ b ∷ [])) (a.value ≢ b.value) (a.value ≡ b.value)

-- x below y
abbrev pub ULtTells : Type 0
ULtTells = (a b : Bits) → Tells (number_of ULt (a ∷ b ∷ [])) (a.value < b.value) (b.value ≤ a.value)

-- x at most y
abbrev pub ULeTells : Type 0
ULeTells = (a b : Bits) → Tells (number_of ULe (a ∷ b ∷ [])) (a.value ≤ b.value) (b.value < a.value)

-- x above y
abbrev pub UGtTells : Type 0
UGtTells = (a b : Bits) → Tells (number_of UGt (a ∷ b ∷ [])) (b.value < a.value) (a.value ≤ b.value)

-- x at least y
abbrev pub UGeTells : Type 0
UGeTells = (a b : Bits) → Tells (number_of UGe (a ∷ b ∷ [])) (b.value ≤ a.value) (a.value < b.value)

-- s(x) below s(y)
abbrev pub SLtTells : Type 0
SLtTells =
    (a b : Bits) → let x = signed a.width a.value in let y = signed a.width b.value in Tells (number_of SLt (a ∷ b ∷ [])) (x <ℤ y) (y ≤ℤ x)

-- s(x) at most s(y)
abbrev pub SLeTells : Type 0
SLeTells =
    (a b : Bits) → let x = signed a.width a.value in let y = signed a.width b.value in Tells (number_of SLe (a ∷ b ∷ [])) (x ≤ℤ y) (y <ℤ x)

-- s(x) above s(y)
abbrev pub SGtTells : Type 0
SGtTells =
    (a b : Bits) → let x = signed a.width a.value in let y = signed a.width b.value in Tells (number_of SGt (a ∷ b ∷ [])) (y <ℤ x) (x ≤ℤ y)

-- s(x) at least s(y)
abbrev pub SGeTells : Type 0
SGeTells =
    (a b : Bits) → let x = signed a.width a.value in let y = signed a.width b.value in Tells (number_of SGe (a ∷ b ∷ [])) (y ≤ℤ x) (x <ℤ y)

-- an implication fails where x is 1 and y is 0
abbrev pub ImpTells : Type 0
ImpTells = (a b : Bits) → (number_of Imp (a ∷ b ∷ []) ≡ 0) ↔ ((a.value ≡ 1) × (b.value ≡ 0))

-- ---- all bits of a value, and its own width

-- all bits are the value
abbrev pub ExtractOfAll : Type 0
ExtractOfAll = (a : Bits) → IsBits a → number_of (Extract (a.width - 1) 0) (a ∷ []) ≡ a.value

-- zext to the own width
abbrev pub ZExtToOwn : Type 0
ZExtToOwn = (a : Bits) → number_of (ZExt a.width) (a ∷ []) ≡ a.value

-- sext to the own width
abbrev pub SExtToOwn : Type 0
SExtToOwn = (a : Bits) → IsBits a → number_of (SExt a.width) (a ∷ []) ≡ a.value
