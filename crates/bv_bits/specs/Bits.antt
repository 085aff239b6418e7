-- Bit vectors: which values there are, and the table of the operators' widths and values, in whole numbers.
use Rattle.std.specs.Prelude.{ℕ, ◌+◌, ◌-◌, ◌*◌, ◌/◌, ◌%◌, ◌^◌, ◌<◌, ◌≤◌, ℤ, pos, negsuc, Bool, not, ◌&&◌, if◌then◌else◌, List, [], ◌∷◌, map, Option, Some, None, unwrap_or, nat_eq, nat_lt, nat_le, int_lt, int_le, int_div, int_rem, bit_and, bit_or, bit_xor}
use Rattle.std.specs.Int.{int_shr}
use Rattle.std.specs.List.{list_all}
use Rattle.bv_bits.specs.declared.Bits.{Bits}
use Rattle.bv_bits.specs.declared.Op.{Op}
use Rattle.bv_bits.specs.declared.Op.TheVariants.{Not, Neg, And, Or, Xor, Imp, Add, Sub, Mul, UDiv, URem, SDiv, SRem, Shl, LShr, AShr, Eq, Ne, ULt, ULe, UGt, UGe, SLt, SLe, SGt, SGe, Concat, Extract, ZExt, SExt, Ite}

-- ---- values

-- a width of a value
pub record IsWidth (w : ℕ) : Type 0 where
  pub positive : 0 < w
  pub at_most : w ≤ 128

-- the same as a test
abbrev pub is_width : ℕ → Bool
is_width w = nat_lt 0 w && nat_le w 128

-- a value: a width from 1 to 128, and a number below 2 ^ width
pub record IsBits (b : Bits) : Type 0 where
  pub positive : 0 < b.width
  pub at_most : b.width ≤ 128
  pub fits : b.value < 2 ^ b.width

-- the width alone
abbrev pub width_of : Bits → ℕ
width_of b = b.width

-- ---- numbers of w bits

-- the number whose bits are all 1
abbrev pub ones : ℕ → ℕ
ones w = 2 ^ w - 1

-- the number in two's complement: x below the half, and x - 2 ^ w from there on
abbrev pub signed : ℕ → ℕ → ℤ
signed w x = if nat_lt x (2 ^ (w - 1)) then pos x else negsuc (2 ^ w - 1 - x)

-- a whole number modulo 2 ^ w; `negsuc n` is -1 - n
abbrev pub wrapped : ℕ → ℤ → ℕ
wrapped w (pos n) = n % 2 ^ w
wrapped w (negsuc n) = 2 ^ w - 1 - n % 2 ^ w

-- the sign bit at each place
abbrev pub sign_bits : ℕ → ℕ → ℕ
sign_bits w x = if nat_lt x (2 ^ (w - 1)) then 0 else ones w

-- a truth value as one bit
abbrev pub bit : Bool → ℕ
bit b = if b then 1 else 0

-- ---- one, two or three arguments, and nothing at another number of them

-- the width where the test holds
abbrev pub some_if : Bool → ℕ → Option ℕ
some_if b w = if b then Some w else None

-- a width made of one
abbrev pub one_width : (ℕ → Option ℕ) → List ℕ → Option ℕ
one_width f [] = None
one_width f (w ∷ []) = f w
one_width f (w ∷ m ∷ ws) = None

-- a width made of two
abbrev pub two_widths : (ℕ → ℕ → Option ℕ) → List ℕ → Option ℕ
two_widths f [] = None
two_widths f (w ∷ []) = None
two_widths f (w ∷ m ∷ []) = f w m
two_widths f (w ∷ m ∷ n ∷ ws) = None

-- a width made of three
abbrev pub three_widths : (ℕ → ℕ → ℕ → Option ℕ) → List ℕ → Option ℕ
three_widths f [] = None
three_widths f (w ∷ []) = None
three_widths f (w ∷ m ∷ []) = None
three_widths f (w ∷ m ∷ n ∷ []) = f w m n
three_widths f (w ∷ m ∷ n ∷ k ∷ ws) = None

-- a number made of a width and a number
abbrev pub one_number : (ℕ → ℕ → ℕ) → List Bits → ℕ
one_number f [] = 0
one_number f (a ∷ []) = f a.width a.value
one_number f (a ∷ b ∷ rest) = 0

-- a number made of two widths and two numbers
abbrev pub two_numbers : (ℕ → ℕ → ℕ → ℕ → ℕ) → List Bits → ℕ
two_numbers f [] = 0
two_numbers f (a ∷ []) = 0
two_numbers f (a ∷ b ∷ []) = f a.width b.width a.value b.value
two_numbers f (a ∷ b ∷ c ∷ rest) = 0

-- a number made of three numbers
abbrev pub three_numbers : (ℕ → ℕ → ℕ → ℕ) → List Bits → ℕ
three_numbers f [] = 0
three_numbers f (a ∷ []) = 0
three_numbers f (a ∷ b ∷ []) = 0
three_numbers f (a ∷ b ∷ c ∷ []) = f a.value b.value c.value
three_numbers f (a ∷ b ∷ c ∷ d ∷ rest) = 0

-- ---- the table: widths. w is the width of the first argument, m that of the second

-- two of one width give that width
abbrev pub same : ℕ → ℕ → Option ℕ
same w m = some_if (nat_eq w m) w

-- two of one width give one bit
abbrev pub relation : ℕ → ℕ → Option ℕ
relation w m = some_if (nat_eq w m) 1

-- the amount may have any width
abbrev pub shift : ℕ → ℕ → Option ℕ
shift w m = Some w

-- the width of what the operator gives at arguments of these widths, each the width of a bit vector
abbrev pub result_width_of : Op → List ℕ → Option ℕ
result_width_of Not = one_width Some
result_width_of Neg = one_width Some
result_width_of And = two_widths same
result_width_of Or = two_widths same
result_width_of Xor = two_widths same
result_width_of Imp = two_widths (λ w m. some_if (nat_eq w 1 && nat_eq m 1) 1)
result_width_of Add = two_widths same
result_width_of Sub = two_widths same
result_width_of Mul = two_widths same
result_width_of UDiv = two_widths same
result_width_of URem = two_widths same
result_width_of SDiv = two_widths same
result_width_of SRem = two_widths same
result_width_of Shl = two_widths shift
result_width_of LShr = two_widths shift
result_width_of AShr = two_widths shift
result_width_of Eq = two_widths relation
result_width_of Ne = two_widths relation
result_width_of ULt = two_widths relation
result_width_of ULe = two_widths relation
result_width_of UGt = two_widths relation
result_width_of UGe = two_widths relation
result_width_of SLt = two_widths relation
result_width_of SLe = two_widths relation
result_width_of SGt = two_widths relation
result_width_of SGe = two_widths relation
result_width_of Concat = two_widths (λ w m. some_if (nat_le (w + m) 128) (w + m))
result_width_of (Extract hi lo) = one_width (λ w. some_if (nat_le lo hi && nat_lt hi w) (hi - lo + 1))
result_width_of (ZExt to) = one_width (λ w. some_if (nat_le w to && nat_le to 128) to)
result_width_of (SExt to) = one_width (λ w. some_if (nat_le w to && nat_le to 128) to)
result_width_of Ite = three_widths (λ t w m. some_if (nat_eq t 1 && nat_eq w m) w)

-- the same, and none where there are no bit vectors of one of these widths
abbrev pub checked_width_of : Op → List ℕ → Option ℕ
checked_width_of op ws = if list_all is_width ws then result_width_of op ws else None

-- ---- the table: values. w and m are the widths as above, x and y the numbers of the first and the second argument

-- what the operator gives, as a number
abbrev pub number_of : Op → List Bits → ℕ
number_of Not = one_number (λ w x. 2 ^ w - 1 - x)
number_of Neg = one_number (λ w x. (2 ^ w - x) % 2 ^ w)
number_of And = two_numbers (λ w m x y. bit_and x y)
number_of Or = two_numbers (λ w m x y. bit_or x y)
number_of Xor = two_numbers (λ w m x y. bit_xor x y)
number_of Imp = two_numbers (λ w m x y. if nat_eq x 1 && nat_eq y 0 then 0 else 1)
number_of Add = two_numbers (λ w m x y. (x + y) % 2 ^ w)
number_of Sub = two_numbers (λ w m x y. (x + (2 ^ w - y)) % 2 ^ w)
number_of Mul = two_numbers (λ w m x y. (x * y) % 2 ^ w)
number_of UDiv = two_numbers (λ w m x y. if nat_eq y 0 then ones w else x / y)
number_of URem = two_numbers (λ w m x y. if nat_eq y 0 then x else x % y)
number_of SDiv = two_numbers (λ w m x y. if nat_eq y 0 then ones w else wrapped w (int_div (signed w x) (signed w y)))
number_of SRem = two_numbers (λ w m x y. if nat_eq y 0 then x else wrapped w (int_rem (signed w x) (signed w y)))
number_of Shl = two_numbers (λ w m x y. if nat_le w y then 0 else (x * 2 ^ y) % 2 ^ w)
number_of LShr = two_numbers (λ w m x y. if nat_le w y then 0 else x / 2 ^ y)
number_of AShr = two_numbers (λ w m x y. if nat_le w y then sign_bits w x else wrapped w (int_shr (signed w x) y))
number_of Eq = two_numbers (λ w m x y. bit (nat_eq x y))
number_of Ne = two_numbers (λ w m x y. bit (not (nat_eq x y)))
number_of ULt = two_numbers (λ w m x y. bit (nat_lt x y))
number_of ULe = two_numbers (λ w m x y. bit (nat_le x y))
number_of UGt = two_numbers (λ w m x y. bit (nat_lt y x))
number_of UGe = two_numbers (λ w m x y. bit (nat_le y x))
number_of SLt = two_numbers (λ w m x y. bit (int_lt (signed w x) (signed w y)))
number_of SLe = two_numbers (λ w m x y. bit (int_le (signed w x) (signed w y)))
number_of SGt = two_numbers (λ w m x y. bit (int_lt (signed w y) (signed w x)))
number_of SGe = two_numbers (λ w m x y. bit (int_le (signed w y) (signed w x)))
number_of Concat = two_numbers (λ w m x y. x * 2 ^ m + y)
number_of (Extract hi lo) = one_number (λ w x. x / 2 ^ lo % 2 ^ (hi - lo + 1))
number_of (ZExt to) = one_number (λ w x. x)
number_of (SExt to) = one_number (λ w x. wrapped to (signed w x))
number_of Ite = three_numbers (λ t x y. if nat_eq t 1 then x else y)

-- the value of the operator at the arguments
abbrev pub apply_of : Op → List Bits → Bits
apply_of op args = record { width = unwrap_or (result_width_of op (map width_of args)) 0; value = number_of op args }
