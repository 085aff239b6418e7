-- The numbers on both sides of each rule.
use Rattle.std.proofs.Common.{◌≡◌, ℕ, ◌+◌, ◌-◌, ◌*◌, ◌/◌, ◌%◌, ◌^◌, ◌<◌, ◌≤◌, Bool, true, false, not, ◌⊎◌, [], ◌∷◌, Option, Some, eqb, leb, ltb, bit_and, bit_or, ℤ, int_lt, int_le, refl, ap, sym, ◌∙◌, inl, inr, arith}
use Rattle.std.specs.Prelude.{unwrap_or}
use Rattle.std.proofs.lemmas.Bool.{cases_lt, le-leb, le-ltb}
use Rattle.std.proofs.lemmas.Bool.Decides.{nat_tests}
use Rattle.std.proofs.lemmas.Int.{ints}
use Rattle.std.proofs.lemmas.Option.{none-some}
use Rattle.std.proofs.lemmas.Nat.{pow_pos, or_lt, and_mask, and_comm}
use Rattle.std.proofs.lemmas.Nat.Bits.{bit_at-lt, bit_at_or, bit_at_ones, same_from_bits_below}
use Rattle.std.proofs.Math.Nat.{add-mod-mod, mod-add-mod, add-mod_right, mod_self, mod-eq_of_lt, zero-mod, div-one, mul-one, one-mul, mul-zero, zero-mul}
use Rattle.bv_bits.specs.declared.Bits.{Bits}
use Rattle.bv_bits.specs.declared.Op.{Op}
use Rattle.bv_bits.specs.declared.Op.TheVariants.{Eq, Ne, ULt, ULe, UGt, UGe, SLt, SLe, SGt, SGe, Concat, Extract}
use Rattle.bv_bits.specs.Bits.{IsBits, ones, signed, bit, number_of, apply_of}
use Rattle.bv_bits.specs.BitLaws.{has_bit}
use Rattle.bv_bits.proofs.BitLemmas.{same_bits, extract_bits, concat_low, concat_high}
use Rattle.term_rules.specs.Rules.{opposite, holds_of_same}
use Rattle.term_tree.proofs.OperatorLemmas.{mod_below}

-- ---- bit by bit

pub not_twice : (m x : ℕ) → x < m → m - 1 - (m - 1 - x) ≡ x
not_twice m x h = omega arith

pub ones_and : (w y : ℕ) → y < 2 ^ w → bit_and (ones w) y ≡ y
ones_and w y h = and_comm (ones w) y ∙ and_mask y w ∙ mod-eq_of_lt h

pub and_ones : (w x : ℕ) → x < 2 ^ w → bit_and x (ones w) ≡ x
and_ones w x h = and_mask x w ∙ mod-eq_of_lt h

pub or_ones : (w x : ℕ) → x < 2 ^ w → bit_or x (ones w) ≡ ones w
or_ones w x h =
    let full : ones w < 2 ^ w = omega (arith, pow_pos w) in
    same_from_bits_below w (bit_or x (ones w)) (ones w) (or_lt w x (ones w) h full) full
    (λ j l. bit_at_or x (ones w) j ∙ omega (arith, bit_at_ones w j l, bit_at-lt x j))

pub ones_or : (w y : ℕ) → y < 2 ^ w → bit_or (ones w) y ≡ ones w
ones_or w y h =
    let full : ones w < 2 ^ w = omega (arith, pow_pos w) in
    same_from_bits_below w (bit_or (ones w) y) (ones w) (or_lt w (ones w) y full h) full
    (λ j l. bit_at_or (ones w) y j ∙ omega (arith, bit_at_ones w j l, bit_at-lt y j))

-- ---- sums and differences modulo m

module _ (m : ℕ) where
  pub sum_turned : (x y : ℕ) → (y + x) % m ≡ (x + y) % m
  sum_turned x y = ap (λ n. n % m) (omega arith)

  pub sum_zero : (x : ℕ) → x < m → (x + 0) % m ≡ x
  sum_zero x h = ap (λ n. n % m) (omega arith) ∙ mod-eq_of_lt h

  pub sum_literals : (x c d : ℕ) → (x + (c + d) % m) % m ≡ ((x + c) % m + d) % m
  sum_literals x c d = add-mod-mod x (c + d) m ∙ ap (λ n. n % m) (omega arith) ∙ sym (mod-add-mod (x + c) m d)

  pub sum_out_of_second : (x y c : ℕ) → ((x + y) % m + c) % m ≡ (x + (y + c) % m) % m
  sum_out_of_second x y c = mod-add-mod (x + y) m c ∙ ap (λ n. n % m) (omega arith) ∙ sym (add-mod-mod x (y + c) m)

  pub sum_out_of_first : (x y c : ℕ) → ((x + y) % m + c) % m ≡ ((x + c) % m + y) % m
  sum_out_of_first x y c = mod-add-mod (x + y) m c ∙ ap (λ n. n % m) (omega arith) ∙ sym (mod-add-mod (x + c) m y)

  pub difference_of_literal : (x c : ℕ) → (x + (m - c) % m) % m ≡ (x + (m - c)) % m
  difference_of_literal x c = add-mod-mod x (m - c) m

  pub difference_same : (x : ℕ) → x < m → 0 ≡ (x + (m - x)) % m
  difference_same x h = sym (ap (λ n. n % m) (omega arith) ∙ mod_self m)

  pub difference_left : (x y : ℕ) → x < m → y < m → y ≡ ((x + y) % m + (m - x)) % m
  difference_left x y h k =
      sym (mod-add-mod (x + y) m (m - x) ∙ ap (λ n. n % m) (omega arith) ∙ add-mod_right y m ∙ mod-eq_of_lt k)

  pub difference_out_of_first : (x y c : ℕ) → ((x + (m - y)) % m + c) % m ≡ ((x + c) % m + (m - y)) % m
  difference_out_of_first x y c = sum_out_of_first x (m - y) c

  -- two numbers below m, and what their sum leaves
  pub sum_cases : (y c : ℕ) → y < m → c < m → ((y + c) % m ≡ y + c) ⊎ ((y + c) % m + m ≡ y + c)
  sum_cases y c p q =
      elim (cases_lt (y + c) m) [
        | inl lt ↦ inl (mod-eq_of_lt lt)
        | inr ge ↦
            let e : y + c ≡ (y + c - m) + m = omega arith in
            let k = ap (λ n. n % m) e ∙ add-mod_right (y + c - m) m ∙ mod-eq_of_lt (omega arith) in
            inr (omega (arith, k))
      ]

  once_more : (n k : ℕ) → k ≡ n + m → k % m ≡ n % m
  once_more n k e = ap (λ j. j % m) e ∙ add-mod_right n m

  pub difference_out_of_second : (x y c : ℕ) → y < m → c < m → ((x + (m - y)) % m + (m - c) % m) % m ≡ (x + (m - (y + c) % m)) % m
  difference_out_of_second x y c p q =
      add-mod-mod ((x + (m - y)) % m) (m - c) m ∙ mod-add-mod (x + (m - y)) m (m - c)
      ∙ elim (sum_cases y c p q) [
        | inl e ↦ once_more (x + (m - (y + c) % m)) (x + (m - y) + (m - c)) (omega arith)
        | inr e ↦ ap (λ n. n % m) (omega arith)
      ]

  pub product_one : (x : ℕ) → x < m → x ≡ (x * 1) % m
  product_one x h = sym (ap (λ n. n % m) (mul-one x) ∙ mod-eq_of_lt h)

  pub one_product : (x : ℕ) → x < m → x ≡ (1 * x) % m
  one_product x h = sym (ap (λ n. n % m) (one-mul x) ∙ mod-eq_of_lt h)

  pub product_zero : (x : ℕ) → 0 ≡ (x * 0) % m
  product_zero x = sym (ap (λ n. n % m) (mul-zero x) ∙ zero-mod m)

  pub zero_product : (x : ℕ) → 0 ≡ (0 * x) % m
  zero_product x = sym (ap (λ n. n % m) (zero-mul x) ∙ zero-mod m)

-- ---- relations

bit_not : (b c : Bool) → c ≡ not b → bit c ≡ 1 - bit b
bit_not true c e = ap bit e
bit_not false c e = ap bit e

not_ne : (b : Bool) → b ≡ not (not b)
not_ne true = refl
not_ne false = refl

lt_or_le : (x y : ℕ) → leb y x ≡ not (ltb x y)
lt_or_le x y = grind (arith, nat_tests)

le_or_lt : (x y : ℕ) → ltb y x ≡ not (leb x y)
le_or_lt x y = grind (arith, nat_tests)

int_lt_or_le : (x y : ℤ) → int_le y x ≡ not (int_lt x y)
int_lt_or_le x y = grind (arith, ints)

int_le_or_lt : (x y : ℤ) → int_lt y x ≡ not (int_le x y)
int_le_or_lt x y = grind (arith, ints)

-- the opposite relation of the same two values
module _ (a b : Bits) where
  turned_number : (op q p : Op) → Some q ≡ Some p → number_of q (a ∷ b ∷ []) ≡ 1 - number_of op (a ∷ b ∷ []) → number_of p (a ∷ b ∷ []) ≡ 1 - number_of op (a ∷ b ∷ [])
  turned_number op q p e h = sym (ap (λ (o : Option Op). number_of (unwrap_or o q) (a ∷ b ∷ [])) e) ∙ h

  pub opposite_number : (op p : Op) → opposite op ≡ Some p → number_of p (a ∷ b ∷ []) ≡ 1 - number_of op (a ∷ b ∷ [])
  opposite_number Eq p e = turned_number Eq Ne p e (bit_not _ _ refl)
  opposite_number Ne p e = turned_number Ne Eq p e (bit_not _ _ (not_ne (eqb a.value b.value)))
  opposite_number ULt p e = turned_number ULt UGe p e (bit_not _ _ (lt_or_le a.value b.value))
  opposite_number UGe p e = turned_number UGe ULt p e (bit_not _ _ (le_or_lt b.value a.value))
  opposite_number ULe p e = turned_number ULe UGt p e (bit_not _ _ (le_or_lt a.value b.value))
  opposite_number UGt p e = turned_number UGt ULe p e (bit_not _ _ (lt_or_le b.value a.value))
  opposite_number SLt p e = turned_number SLt SGe p e (bit_not _ _ (int_lt_or_le (signed a.width a.value) (signed a.width b.value)))
  opposite_number SGe p e = turned_number SGe SLt p e (bit_not _ _ (int_le_or_lt (signed a.width b.value) (signed a.width a.value)))
  opposite_number SLe p e = turned_number SLe SGt p e (bit_not _ _ (int_le_or_lt (signed a.width a.value) (signed a.width b.value)))
  opposite_number SGt p e = turned_number SGt SLe p e (bit_not _ _ (int_lt_or_le (signed a.width b.value) (signed a.width a.value)))
  opposite_number op p e = absurd (none-some p e)

eqb_itself : (x : ℕ) → true ≡ eqb x x
eqb_itself x = grind (arith, nat_tests)

lt_itself : (x : ℕ) → false ≡ ltb x x
lt_itself x = grind (arith, nat_tests)

le_itself : (x : ℕ) → true ≡ leb x x
le_itself x = grind (arith, nat_tests)

int_lt_itself : (x : ℤ) → false ≡ int_lt x x
int_lt_itself x = grind (arith, ints)

int_le_itself : (x : ℤ) → true ≡ int_le x x
int_le_itself x = grind (arith, ints)

-- a relation of a value with itself
module _ (a : Bits) where
  truth_number : (op : Op) (c b : Bool) → Some c ≡ Some b → bit c ≡ number_of op (a ∷ a ∷ []) → bit b ≡ number_of op (a ∷ a ∷ [])
  truth_number op c b e h = sym (ap (λ (o : Option Bool). bit (unwrap_or o c)) e) ∙ h

  pub same_number : (op : Op) (b : Bool) → holds_of_same op ≡ Some b → bit b ≡ number_of op (a ∷ a ∷ [])
  same_number Eq b e = truth_number Eq true b e (ap bit (eqb_itself a.value))
  same_number Ne b e = truth_number Ne false b e (ap (λ c. bit (not c)) (eqb_itself a.value))
  same_number ULt b e = truth_number ULt false b e (ap bit (lt_itself a.value))
  same_number UGt b e = truth_number UGt false b e (ap bit (lt_itself a.value))
  same_number ULe b e = truth_number ULe true b e (ap bit (le_itself a.value))
  same_number UGe b e = truth_number UGe true b e (ap bit (le_itself a.value))
  same_number SLt b e = truth_number SLt false b e (ap bit (int_lt_itself (signed a.width a.value)))
  same_number SGt b e = truth_number SGt false b e (ap bit (int_lt_itself (signed a.width a.value)))
  same_number SLe b e = truth_number SLe true b e (ap bit (int_le_itself (signed a.width a.value)))
  same_number SGe b e = truth_number SGe true b e (ap bit (int_le_itself (signed a.width a.value)))
  same_number op b e = absurd (none-some b e)

pub not_below_zero : (x : ℕ) → 0 ≡ bit (ltb x 0)
not_below_zero x = sym (ap bit (le-ltb x 0 (omega arith)))

pub zero_at_most : (x : ℕ) → 1 ≡ bit (leb 0 x)
zero_at_most x = sym (ap bit (le-leb 0 x (omega arith)))

-- ---- parts

-- all bits
pub extract_all : (hi lo w x : ℕ) → lo ≡ 0 → hi + 1 ≡ w → x < 2 ^ w → x ≡ x / 2 ^ lo % 2 ^ (hi - lo + 1)
extract_all hi lo w x p q h =
    let e : hi - lo + 1 ≡ w = omega arith in
    sym (ap (λ k. x / 2 ^ k % 2 ^ (hi - lo + 1)) p ∙ ap (λ n. n % 2 ^ (hi - lo + 1)) (div-one x) ∙ ap (λ k. x % 2 ^ k) e ∙ mod-eq_of_lt h)

-- two extracts of one width, with the same bits
same_extracts : (hi lo k l : ℕ) (a b : Bits) → k - l + 1 ≡ hi - lo + 1 → hi - lo + 1 ≤ 128 → ((j : ℕ) → j < hi - lo + 1 → has_bit a.value (l + j) ≡ has_bit b.value (lo + j)) → number_of (Extract k l) (a ∷ []) ≡ number_of (Extract hi lo) (b ∷ [])
same_extracts hi lo k l a b e most h =
    same_bits (record { width = k - l + 1; value = number_of (Extract k l) (a ∷ []) }) (record { width = hi - lo + 1; value = number_of (Extract hi lo) (b ∷ []) })
    (record { positive = omega arith; at_most = omega arith; fits = mod_below (a.value / 2 ^ l) (k - l + 1) })
    (record { positive = omega arith; at_most = most; fits = mod_below (b.value / 2 ^ lo) (hi - lo + 1) }) e
    (λ j below.
    let within : j < hi - lo + 1 = omega arith in
    extract_bits k l a j below ∙ h j within ∙ sym (extract_bits hi lo b j within))

-- an extract of an extract
pub extract_extract : (hi lo k l : ℕ) (a : Bits) → lo ≤ hi → hi < k - l + 1 → hi < 128 → number_of (Extract (hi + l) (lo + l)) (a ∷ []) ≡ number_of (Extract hi lo) (apply_of (Extract k l) (a ∷ []) ∷ [])
extract_extract hi lo k l a p q most =
    same_extracts hi lo (hi + l) (lo + l) a (apply_of (Extract k l) (a ∷ [])) (omega arith) (omega arith)
    (λ j h. ap (has_bit a.value) (omega arith) ∙ sym (extract_bits k l a (lo + j) (omega arith)))

-- an extract of the second of two joined values
pub extract_low : (hi lo : ℕ) (a b : Bits) → lo ≤ hi → hi < b.width → b.width ≤ 128 → number_of (Extract hi lo) (b ∷ []) ≡ number_of (Extract hi lo) (apply_of Concat (a ∷ b ∷ []) ∷ [])
extract_low hi lo a b p q most =
    same_extracts hi lo hi lo b (apply_of Concat (a ∷ b ∷ [])) refl (omega arith) (λ j h. sym (concat_low a b (lo + j) (omega arith)))

-- an extract of the first of them
pub extract_high : (hi lo : ℕ) (a b : Bits) → IsBits b → lo ≤ hi → b.width ≤ lo → hi < 128 → number_of (Extract (hi - b.width) (lo - b.width)) (a ∷ []) ≡ number_of (Extract hi lo) (apply_of Concat (a ∷ b ∷ []) ∷ [])
extract_high hi lo a b f p q most =
    same_extracts hi lo (hi - b.width) (lo - b.width) a (apply_of Concat (a ∷ b ∷ [])) (omega arith) (omega arith)
    (λ j h. ap (has_bit a.value) (omega arith) ∙ sym (concat_high a b f (lo + j) (omega arith)))
