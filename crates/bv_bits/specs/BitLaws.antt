-- The single bits of what the operators give, and the carries of a sum.
use Rattle.std.specs.Prelude.{◌≡◌, ℕ, ◌+◌, ◌-◌, ◌*◌, ◌%◌, ◌^◌, ◌<◌, ◌≤◌, Bool, true, false, not, ◌&&◌, ◌||◌, if◌then◌else◌, [], ◌∷◌, nat_eq, nat_lt, nat_le, int_lt}
use Rattle.std.specs.Int.{bit_at}
use Rattle.bv_bits.specs.declared.Bits.{Bits}
use Rattle.bv_bits.specs.declared.Op.TheVariants.{Not, Neg, And, Or, Xor, Imp, Add, Sub, Shl, LShr, AShr, Concat, Extract, ZExt, SExt, Ite}
use Rattle.bv_bits.specs.Bits.{IsBits, ones, signed, bit, number_of}

-- whether bit j of the number is 1; bit 0 is the lowest
abbrev pub has_bit : ℕ → ℕ → Bool
has_bit n j = nat_eq (bit_at n j) 1

-- two values of one width with the same bits are one number
abbrev pub SameBits : Type 0
SameBits =
    (a b : Bits) → IsBits a → IsBits b → a.width ≡ b.width → ((j : ℕ) → j < a.width → has_bit a.value j ≡ has_bit b.value j) → a.value ≡ b.value

-- a value has no bit from its width on
abbrev pub NoBitPastWidth : Type 0
NoBitPastWidth = (a : Bits) → IsBits a → (j : ℕ) → a.width ≤ j → has_bit a.value j ≡ false

-- whether exactly one of both holds
abbrev pub exclusive : Bool → Bool → Bool
exclusive x y = if x then not y else y

-- ---- bit by bit

-- each bit turned
abbrev pub NotBits : Type 0
NotBits = (a : Bits) → IsBits a → (j : ℕ) → j < a.width → has_bit (number_of Not (a ∷ [])) j ≡ not (has_bit a.value j)

-- both
abbrev pub AndBits : Type 0
AndBits = (a b : Bits) (j : ℕ) → has_bit (number_of And (a ∷ b ∷ [])) j ≡ (has_bit a.value j && has_bit b.value j)

-- at least one of both
abbrev pub OrBits : Type 0
OrBits = (a b : Bits) (j : ℕ) → has_bit (number_of Or (a ∷ b ∷ [])) j ≡ (has_bit a.value j || has_bit b.value j)

-- exactly one of both
abbrev pub XorBits : Type 0
XorBits = (a b : Bits) (j : ℕ) → has_bit (number_of Xor (a ∷ b ∷ [])) j ≡ exclusive (has_bit a.value j) (has_bit b.value j)

-- the second, or not the first
abbrev pub ImpBit : Type 0
ImpBit =
    (a b : Bits) → a.value < 2 → b.value < 2 → has_bit (number_of Imp (a ∷ b ∷ [])) 0 ≡ (not (has_bit a.value 0) || has_bit b.value 0)

-- the bits of the branch that is taken
abbrev pub IteBits : Type 0
IteBits =
    (t a b : Bits) → t.value < 2 → (j : ℕ) → has_bit (number_of Ite (t ∷ a ∷ b ∷ [])) j ≡ (if has_bit t.value 0 then has_bit a.value j else has_bit b.value j)

-- the one bit of a truth value
abbrev pub TruthBit : Type 0
TruthBit = (b : Bool) → has_bit (bit b) 0 ≡ b

-- ---- parts

-- the low bits are those of the second
abbrev pub ConcatLow : Type 0
ConcatLow = (a b : Bits) (j : ℕ) → j < b.width → has_bit (number_of Concat (a ∷ b ∷ [])) j ≡ has_bit b.value j

-- the others are those of the first
abbrev pub ConcatHigh : Type 0
ConcatHigh =
    (a b : Bits) → IsBits b → (j : ℕ) → b.width ≤ j → has_bit (number_of Concat (a ∷ b ∷ [])) j ≡ has_bit a.value (j - b.width)

-- bit j is bit lo + j
abbrev pub ExtractBits : Type 0
ExtractBits =
    (hi lo : ℕ) (a : Bits) (j : ℕ) → j < hi - lo + 1 → has_bit (number_of (Extract hi lo) (a ∷ [])) j ≡ has_bit a.value (lo + j)

-- the bits stay
abbrev pub ZExtBits : Type 0
ZExtBits = (to : ℕ) (a : Bits) (j : ℕ) → has_bit (number_of (ZExt to) (a ∷ [])) j ≡ has_bit a.value j

-- the bits within the old width stay
abbrev pub SExtLow : Type 0
SExtLow =
    (to : ℕ) (a : Bits) → IsBits a → a.width ≤ to → (j : ℕ) → j < a.width → has_bit (number_of (SExt to) (a ∷ [])) j ≡ has_bit a.value j

-- the others are the sign bit
abbrev pub SExtHigh : Type 0
SExtHigh =
    (to : ℕ) (a : Bits) → IsBits a → a.width ≤ to → (j : ℕ) → a.width ≤ j → j < to → has_bit (number_of (SExt to) (a ∷ [])) j ≡ has_bit a.value (a.width - 1)

-- ---- shifts, by any amount

-- bit j is bit j - y
abbrev pub ShlBits : Type 0
ShlBits =
    (a b : Bits) (j : ℕ) → b.value ≤ j → j < a.width → has_bit (number_of Shl (a ∷ b ∷ [])) j ≡ has_bit a.value (j - b.value)

-- the low y bits are 0
abbrev pub ShlLow : Type 0
ShlLow = (a b : Bits) (j : ℕ) → j < b.value → has_bit (number_of Shl (a ∷ b ∷ [])) j ≡ false

-- bit j is bit j + y
abbrev pub LShrBits : Type 0
LShrBits = (a b : Bits) → IsBits a → (j : ℕ) → has_bit (number_of LShr (a ∷ b ∷ [])) j ≡ has_bit a.value (j + b.value)

-- bit j is bit j + y while that is within the width
abbrev pub AShrBits : Type 0
AShrBits =
    (a b : Bits) → IsBits a → (j : ℕ) → j + b.value < a.width → has_bit (number_of AShr (a ∷ b ∷ [])) j ≡ has_bit a.value (j + b.value)

-- and else the sign bit
abbrev pub AShrHigh : Type 0
AShrHigh =
    (a b : Bits) → IsBits a → (j : ℕ) → j < a.width → a.width ≤ j + b.value → has_bit (number_of AShr (a ∷ b ∷ [])) j ≡ has_bit a.value (a.width - 1)

-- ---- sums and differences, by their carries

-- whether x + y, and 1 where c, carries into bit j
abbrev pub carry_into : Bool → ℕ → ℕ → ℕ → Bool
carry_into c x y j = nat_le (2 ^ j) (x % 2 ^ j + y % 2 ^ j + bit c)

-- whether an odd number of the three holds
abbrev pub parity : Bool → Bool → Bool → Bool
parity x y z = exclusive (exclusive x y) z

-- whether at least two of the three hold
abbrev pub majority : Bool → Bool → Bool → Bool
majority x y z = if x then y || z else y && z

-- into bit 0 goes what is added
abbrev pub CarryFirst : Type 0
CarryFirst = (c : Bool) (x y : ℕ) → carry_into c x y 0 ≡ c

-- two of the bits and the carry make the next carry
abbrev pub CarryNext : Type 0
CarryNext =
    (c : Bool) (x y j : ℕ) → carry_into c x y (j + 1) ≡ majority (has_bit x j) (has_bit y j) (carry_into c x y j)

-- an odd number of the bits and the carry
abbrev pub AddBits : Type 0
AddBits =
    (a b : Bits) (j : ℕ) → j < a.width → has_bit (number_of Add (a ∷ b ∷ [])) j ≡ parity (has_bit a.value j) (has_bit b.value j) (carry_into false a.value b.value j)

-- x - y is x, the turned bits of y, and 1
abbrev pub SubBits : Type 0
SubBits =
    (a b : Bits) → IsBits b → a.width ≡ b.width → (j : ℕ) → j < a.width → has_bit (number_of Sub (a ∷ b ∷ [])) j ≡ parity (has_bit a.value j) (not (has_bit b.value j)) (carry_into true a.value (ones a.width - b.value) j)

-- -x is 0, the turned bits of x, and 1
abbrev pub NegBits : Type 0
NegBits =
    (a : Bits) → IsBits a → (j : ℕ) → j < a.width → has_bit (number_of Neg (a ∷ [])) j ≡ parity false (not (has_bit a.value j)) (carry_into true 0 (ones a.width - a.value) j)

-- x - y carries out of w bits exactly where y is at most x
abbrev pub CarryOut : Type 0
CarryOut = (w x y : ℕ) → x < 2 ^ w → y < 2 ^ w → carry_into true x (ones w - y) w ≡ nat_le y x

-- ---- signed comparison, by turned sign bits

-- the number with its sign bit turned
abbrev pub turned : ℕ → ℕ → ℕ
turned w x = if nat_lt x (2 ^ (w - 1)) then x + 2 ^ (w - 1) else x - 2 ^ (w - 1)

-- its bits are those of the number, but the top one
abbrev pub TurnedBits : Type 0
TurnedBits =
    (w x j : ℕ) → 0 < w → x < 2 ^ w → j < w → has_bit (turned w x) j ≡ (if nat_eq j (w - 1) then not (has_bit x j) else has_bit x j)

-- two numbers are in signed order as their turned numbers are in order
abbrev pub SignedByTurned : Type 0
SignedByTurned =
    (w x y : ℕ) → 0 < w → x < 2 ^ w → y < 2 ^ w → int_lt (signed w x) (signed w y) ≡ nat_lt (turned w x) (turned w y)

-- ---- products, row by row

-- one more bit of the second factor adds the first, moved to that bit
abbrev pub ProductStep : Type 0
ProductStep =
    (x y r : ℕ) → x * (y % 2 ^ (r + 1)) ≡ x * (y % 2 ^ r) + (if has_bit y r then x * 2 ^ r else 0)
