-- The texts of numbers and literals have the forms of tokens, and a number's stands for it.
use Rattle.std.proofs.Common.{◌≡◌, ℕ, zero, suc, ◌*◌, ◌/◌, ◌%◌, ◌^◌, ◌≤◌, ◌<◌, Bool, true, false, not, cond, ◌||◌, ◌==◌, [], ◌∷◌, ◌++◌, length, Some, refl, sym, ap, ◌∙◌, arith}
use Rattle.std.specs.Prelude.{if◌then◌else◌, codes}
use Rattle.std.specs.Char.{digit_value, is_ascii_digit, is_ascii_hexdigit}
use Rattle.std.specs.List.{list_all}
use Rattle.std.specs.Fmt.{decimal}
use Rattle.std.specs.Str.Parse.{AllDigits, digits_value}
use Rattle.std.proofs.lemmas.Bool.{false≢true, ne_eqb, and_parts, and_from, cond-true, eqb-true, eq-eqb, lt-ltb, le-leb}
use Rattle.std.proofs.lemmas.Bool.Decides.{nat_tests}
use Rattle.std.proofs.lemmas.Fmt.{decimal_is_IsNumeral, length-decimal-le}
use Rattle.bv_bits.specs.declared.Bits.{Bits}
use Rattle.bv_bits.specs.Bits.{IsBits}
use Rattle.lex_core.specs.declared.token.Kind.{Kind}
use Rattle.lex_core.specs.declared.token.Kind.TheVariants as kind
use Rattle.lex_core.specs.Classes.{Text, is_in, is_underscore, digits}
use Rattle.lex_core.specs.Forms.{are_digits, is_literal, has_form}
use Rattle.lex_core.specs.Lexing as lexing
use Rattle.lex_core.specs.Values as values
use Rattle.bit_text.specs.Texts.{digit, last_digits, literal_text}
use Rattle.bit_text.specs.TextLaws.{literal_kind}
use Rattle.bit_text.proofs.LiteralLemmas.{digit_below, digits_length, no_underscore}

-- ---- numbers

decimal_byte : (b : ℕ) → digit_value b < 10 → is_ascii_digit b ≡ true
decimal_byte b h = grind (arith, nat_tests)

all_decimal : (z : Text) → AllDigits 10 z → list_all is_ascii_digit z ≡ true
all_decimal [] h = refl
all_decimal (b ∷ z) h = and_from _ _ (decimal_byte b h.0) (all_decimal z h.1)

plain_digits : (z : Text) → list_all is_ascii_digit z ≡ true → digits z ≡ z
plain_digits [] h = refl
plain_digits (b ∷ z) h =
    let parts = and_parts (is_ascii_digit b) (list_all is_ascii_digit z) h in
    let none : is_underscore b ≡ false = ne_eqb b 95 (λ same. false≢true (ap is_ascii_digit (sym same) ∙ parts.0)) in
    ap (λ u. cond (not u) (b ∷ digits z) (digits z)) none ∙ ap (λ x. b ∷ x) (plain_digits z parts.1)

pub number_form : (n : ℕ) → n < 10 ^ 9 → has_form kind.Number (decimal n) ≡ true
unfolding has_form
number_form n h =
    let small : n < 2 ^ 64 = omega arith in
    let numeral = (decimal_is_IsNumeral n small).0 in
    let few : length (decimal n) ≤ 9 = length-decimal-le 9 n (omega arith) h small in
    and_from _ _ (and_from _ _ (all_decimal (decimal n) numeral.1) (lt-ltb 0 (length (decimal n)) numeral.0)) (le-leb (length (decimal n)) 9 few)

pub number_stands : (n : ℕ) → n < 10 ^ 9 → values.number_of kind.Number (decimal n) ≡ Some n
unfolding values.number_of
number_stands n h =
    let small : n < 2 ^ 64 = omega arith in
    let read = decimal_is_IsNumeral n small in
    ap (λ z. Some (digits_value 10 z)) (plain_digits (decimal n) (all_decimal (decimal n) read.0.1)) ∙ ap (λ (k : ℕ). Some k) read.1

-- ---- literals

hex_byte : (d : ℕ) → d < 16 → is_ascii_hexdigit (digit d) ≡ true
hex_byte d h = grind (arith, nat_tests)

binary_byte : (d : ℕ) → d < 2 → (digit d == 48 || digit d == 49) ≡ true
binary_byte d h = grind (arith, nat_tests)

-- digits of a class in a row
are_last_digits : (c : _) (each : ℕ) → each ≤ 4 → ((d : ℕ) → d < 2 ^ each → is_in c (digit d) ≡ true) → (after : Bool) (n x : ℕ) → are_digits c after (last_digits each n x) ≡ true
are_last_digits c each few h after zero x = refl
are_last_digits c each few h after (suc n) x =
    cond-true (is_in c (digit (x / 2 ^ (each * n) % 2 ^ each))) _ _ (h (x / 2 ^ (each * n) % 2 ^ each) (digit_below each n x few).0) ∙ are_last_digits c each few h true n x

-- so many digits behind `0` and a letter, of the class by which what begins so is cut
literal_form : (k : Kind) (letter : ℕ) (c : _) (most each n x : ℕ) → lexing.front (48 ∷ letter ∷ []) ≡ lexing.literal k c most (48 ∷ letter ∷ []) → each ≤ 4 → ((d : ℕ) → d < 2 ^ each → is_in c (digit d) ≡ true) → 0 < n → n ≤ most → is_literal letter c most (48 ∷ letter ∷ last_digits each n x) ≡ true
literal_form k letter c most each n x class few h some within =
    let count : length (digits (last_digits each n x)) ≡ n = ap length (no_underscore each n x few) ∙ digits_length each n x in
    and_from _ _
    (and_from _ _ (and_from _ _ (and_from _ _ refl (eq-eqb letter letter refl)) (are_last_digits c each few h false n x)) (lt-ltb 0 (length (digits (last_digits each n x))) (omega (arith, count, some))))
    (le-leb (length (digits (last_digits each n x))) most (omega (arith, count, within)))

hex_form : (b : Bits) → IsBits b → b.width % 4 ≡ 0 → has_form kind.Hex (codes "0x" ++ last_digits 4 (b.width / 4) b.value) ≡ true
unfolding has_form lexing.front
hex_form b h e = literal_form kind.Hex 120 _ 32 4 (b.width / 4) b.value refl (omega arith) (λ d l. hex_byte d l) (omega (arith, h.positive, e)) (omega (arith, h.at_most))

binary_form : (b : Bits) → IsBits b → has_form kind.Binary (codes "0b" ++ last_digits 1 b.width b.value) ≡ true
unfolding has_form lexing.front
binary_form b h = literal_form kind.Binary 98 _ 128 1 b.width b.value refl (omega arith) (λ d l. binary_byte d l) h.positive h.at_most

pub literal_is_token : (b : Bits) → IsBits b → has_form (literal_kind b) (literal_text b) ≡ true
unfolding literal_text
literal_is_token b h = either (b.width % 4 == 0) refl
  where
    either : (t : Bool) → (b.width % 4 == 0) ≡ t → has_form (if t then kind.Hex else kind.Binary) (if t then codes "0x" ++ last_digits 4 (b.width / 4) b.value else codes "0b" ++ last_digits 1 b.width b.value) ≡ true
    either true e = hex_form b h (eqb-true (b.width % 4) 0 e)
    either false e = binary_form b h
