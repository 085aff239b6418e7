-- The texts of literals and of names are ASCII.
use Rattle.std.proofs.Common.{◌≡◌, ℕ, zero, suc, ◌*◌, ◌/◌, ◌%◌, ◌^◌, ◌≤◌, ◌<◌, Bool, true, false, ◌||◌, ◌==◌, [], ◌∷◌, ◌++◌, arith}
use Rattle.std.specs.Prelude.{if◌then◌else◌, codes}
use Rattle.std.specs.Char.{is_ascii_alphabetic, is_ascii_alphanumeric}
use Rattle.std.specs.List.{list_all}
use Rattle.std.specs.Str.{IsAscii}
use Rattle.std.proofs.lemmas.Bool.{false≢true, and_parts}
use Rattle.std.proofs.lemmas.Bool.Decides.{nat_tests}
use Rattle.std.proofs.lemmas.Str.Ascii.{IsAscii-nil, IsAscii-cons}
use Rattle.bv_bits.specs.declared.Bits.{Bits}
use Rattle.lex_core.specs.declared.token.Kind.TheVariants as kind
use Rattle.lex_core.specs.Classes.{Text, is_underscore}
use Rattle.lex_core.specs.Forms.{has_form}
use Rattle.bit_text.specs.Texts.{digit, last_digits, literal_text}
use Rattle.bit_text.proofs.LiteralLemmas.{digit_below}

digit_ascii : (d : ℕ) → d < 16 → digit d < 128
digit_ascii d h = grind (arith, nat_tests)

digits_ascii : (each n x : ℕ) → each ≤ 4 → IsAscii (last_digits each n x)
digits_ascii each zero x few = IsAscii-nil
digits_ascii each (suc n) x few = IsAscii-cons _ _ (digit_ascii (x / 2 ^ (each * n) % 2 ^ each) (digit_below each n x few).1) (digits_ascii each n x few)

-- digits behind `0` and a letter
literal_digits_ascii : (letter each n x : ℕ) → letter < 128 → each ≤ 4 → IsAscii (48 ∷ letter ∷ last_digits each n x)
literal_digits_ascii letter each n x h few =
    IsAscii-cons 48 (letter ∷ last_digits each n x) (omega arith) (IsAscii-cons letter (last_digits each n x) h (digits_ascii each n x few))

pub literal_ascii : (b : Bits) → IsAscii (literal_text b)
unfolding literal_text
literal_ascii b = either (b.width % 4 == 0)
  where
    either : (t : Bool) → IsAscii (if t then codes "0x" ++ last_digits 4 (b.width / 4) b.value else codes "0b" ++ last_digits 1 b.width b.value)
    either true = literal_digits_ascii 120 4 (b.width / 4) b.value (omega arith) (omega arith)
    either false = literal_digits_ascii 98 1 b.width b.value (omega arith) (omega arith)

-- ---- names

word_byte : (b : ℕ) → (is_ascii_alphanumeric b || is_underscore b) ≡ true → b < 128
word_byte b h = grind (arith, nat_tests)

first_byte : (b : ℕ) → (is_ascii_alphabetic b || is_underscore b) ≡ true → b < 128
first_byte b h = grind (arith, nat_tests)

words_ascii : (z : Text) → list_all (λ b. is_ascii_alphanumeric b || is_underscore b) z ≡ true → IsAscii z
words_ascii [] h = IsAscii-nil
words_ascii (b ∷ z) h =
    let parts = and_parts (is_ascii_alphanumeric b || is_underscore b) (list_all (λ b. is_ascii_alphanumeric b || is_underscore b) z) h in
    IsAscii-cons b z (word_byte b parts.0) (words_ascii z parts.1)

pub name_ascii : (x : Text) → has_form kind.Name x ≡ true → IsAscii x
unfolding has_form
name_ascii [] h = absurd (false≢true h)
name_ascii (b ∷ z) h =
    let parts = and_parts (is_ascii_alphabetic b || is_underscore b) (list_all (λ b. is_ascii_alphanumeric b || is_underscore b) z) h in
    IsAscii-cons b z (first_byte b parts.0) (words_ascii z parts.1)
