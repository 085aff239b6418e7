-- A literal's text is read as that literal.
use Rattle.std.proofs.Common.{◌≡◌, ℕ, zero, suc, ◌+◌, ◌*◌, ◌/◌, ◌%◌, ◌^◌, ◌≤◌, ◌<◌, Bool, true, false, not, cond, ltb, ◌==◌, ◌∷◌, ◌++◌, length, Some, add_assoc, refl, sym, ap, ◌∙◌, arith}
use Rattle.std.specs.Prelude.{if◌then◌else◌, codes}
use Rattle.std.specs.Char.{digit_value}
use Rattle.std.specs.Str.Parse.{digits_value_after}
use Rattle.std.proofs.lemmas.Bool.{ltb-true, ltb-false, ne_eqb, lt-ltb, eqb-true}
use Rattle.std.proofs.lemmas.Str.{digit_value-digit_char}
use Rattle.std.proofs.lemmas.Nat.{mod-pow-add, pow-add}
use Rattle.std.proofs.Math.Nat.{pow-zero, mul-zero, mul-suc, add-mul, mul_assoc, mod-eq_of_lt}
use Rattle.bv_bits.specs.declared.Bits.{Bits}
use Rattle.bv_bits.specs.Bits.{IsBits}
use Rattle.lex_core.specs.declared.token.Kind.TheVariants as kind
use Rattle.lex_core.specs.declared.token.Literal.{Literal}
use Rattle.lex_core.specs.Classes.{is_underscore, digits}
use Rattle.lex_core.specs.Values as values
use Rattle.bit_text.specs.Texts.{digit, last_digits, literal_text}
use Rattle.bit_text.specs.TextLaws.{literal_kind}
use Rattle.bit_text.proofs.DigitLemmas.{small_power}

-- ---- one digit

digit_low : (d : ℕ) → d < 10 → digit d ≡ 48 + d
digit_low d h = ap (λ b. cond b (48 + d) (87 + d)) (lt-ltb d 10 h)

not_underscore : (d : ℕ) → d < 16 → (b : Bool) → ltb d 10 ≡ b → is_underscore (digit d) ≡ false
not_underscore d h true e = let low = ltb-true d 10 e in let is = digit_low d low in ne_eqb (digit d) 95 (λ f. omega arith)
not_underscore d h false e =
    let high = ltb-false d 10 e in
    let is : digit d ≡ 87 + d = ap (λ b. cond b (48 + d) (87 + d)) e in
    ne_eqb (digit d) 95 (λ f. omega arith)

-- ---- all digits

-- a digit is below the radix, and below 16
pub digit_below : (each n x : ℕ) → each ≤ 4 → (x / 2 ^ (each * n) % 2 ^ each < 2 ^ each) × (x / 2 ^ (each * n) % 2 ^ each < 16)
digit_below each n x h =
    let p = small_power each h in
    let below : x / 2 ^ (each * n) % 2 ^ each < 2 ^ each = omega arith in
    (below, omega (arith, below, p.1))

pub digits_length : (each n x : ℕ) → length (last_digits each n x) ≡ n
digits_length each zero x = refl
digits_length each (suc n) x = ap suc (digits_length each n x)

pub no_underscore : (each n x : ℕ) → each ≤ 4 → digits (last_digits each n x) ≡ last_digits each n x
no_underscore each zero x h = refl
no_underscore each (suc n) x h =
    let d = x / 2 ^ (each * n) % 2 ^ each in
    ap (λ b. cond (not b) (digit d ∷ digits (last_digits each n x)) (digits (last_digits each n x))) (not_underscore d (digit_below each n x h).1 (ltb d 10) refl)
    ∙ ap (λ l. digit d ∷ l) (no_underscore each n x h)

value_after : (each n x acc : ℕ) → each ≤ 4 → digits_value_after (2 ^ each) acc (last_digits each n x) ≡ acc * 2 ^ (each * n) + x % 2 ^ (each * n)
value_after each zero x acc h =
    let one : 2 ^ (each * zero) ≡ 1 = ap (λ k. 2 ^ k) (mul-zero each) ∙ pow-zero 2 in
    let plain : acc ≡ acc * 1 + x % 1 = omega arith in
    plain ∙ ap (λ q. acc * q + x % q) (sym one)
value_after each (suc n) x acc h =
    let P = 2 ^ (each * n) in
    let R = 2 ^ each in
    let d = x / P % R in
    let ih = value_after each n x (acc * R + digit_value (digit d)) h in
    let dv : digit_value (digit d) ≡ d = digit_value-digit_char d (omega (arith, (digit_below each n x h).1)) in
    let parts : x % 2 ^ (each + each * n) ≡ d * P + x % P = mod-pow-add x each (each * n) in
    let exps : 2 ^ (each + each * n) ≡ R * P = pow-add 2 each (each * n) in
    let idx : each + each * n ≡ each * suc n = omega (arith, mul-suc each n) in
    let expand : (acc * R + d) * P ≡ acc * (R * P) + d * P = add-mul (acc * R) d P ∙ ap (λ q. q + d * P) (mul_assoc acc R P) in
    ih ∙ ap (λ v. (acc * R + v) * P + x % P) dv ∙ ap (λ q. q + x % P) expand ∙ add_assoc (acc * (R * P)) (d * P) (x % P)
    ∙ ap (λ q. acc * (R * P) + q) (sym parts) ∙ ap (λ q. acc * q + x % 2 ^ (each + each * n)) (sym exps) ∙ ap (λ k. acc * 2 ^ k + x % 2 ^ k) idx

-- ---- literals

-- digits in a row spell the number, as wide as they are
spelled_bits : (each n w x : ℕ) → each ≤ 4 → each * n ≡ w → x < 2 ^ w → values.bits_of each (last_digits each n x) ≡ record { width = w; value = x }
spelled_bits each n w x h e fits =
    let plain = no_underscore each n x h in
    let small : x < 2 ^ (each * n) = omega (arith, fits, ap (λ k. 2 ^ k) e) in
    let count : each * length (digits (last_digits each n x)) ≡ w = ap (λ l. each * length l) plain ∙ ap (λ k. each * k) (digits_length each n x) ∙ e in
    let value : values.spelled (2 ^ each) (last_digits each n x) ≡ x = ap (digits_value_after (2 ^ each) 0) plain ∙ value_after each n x 0 h ∙ (let z : 0 * 2 ^ (each * n) + x % 2 ^ (each * n) ≡ x % 2 ^ (each * n) = omega arith in z) ∙ mod-eq_of_lt small in
    ap (λ v. record { width = v; value = values.spelled (2 ^ each) (last_digits each n x) }) count ∙ ap (λ v. record { width = w; value = v }) value

-- a literal of hex digits, and one of binary digits
hex_literal : (b : Bits) → IsBits b → b.width % 4 ≡ 0 → values.literal_of kind.Hex (codes "0x" ++ last_digits 4 (b.width / 4) b.value) ≡ Some (record { width = b.width; value = b.value })
unfolding values.literal_of
hex_literal b h e =
    let whole : 4 * (b.width / 4) ≡ b.width = omega arith in
    ap (λ (v : Literal). Some v) (spelled_bits 4 (b.width / 4) b.width b.value (omega arith) whole h.fits)

binary_literal : (b : Bits) → IsBits b → values.literal_of kind.Binary (codes "0b" ++ last_digits 1 b.width b.value) ≡ Some (record { width = b.width; value = b.value })
unfolding values.literal_of
binary_literal b h =
    let whole : 1 * b.width ≡ b.width = omega arith in
    ap (λ (v : Literal). Some v) (spelled_bits 1 b.width b.width b.value (omega arith) whole h.fits)

-- the text of a literal stands for it
pub literal_stands : (b : Bits) → IsBits b → values.literal_of (literal_kind b) (literal_text b) ≡ Some (record { width = b.width; value = b.value })
unfolding literal_text
literal_stands b h = either (b.width % 4 == 0) refl
  where
    either : (t : Bool) → (b.width % 4 == 0) ≡ t
        → values.literal_of (if t then kind.Hex else kind.Binary) (if t then codes "0x" ++ last_digits 4 (b.width / 4) b.value else codes "0b" ++ last_digits 1 b.width b.value) ≡ Some (record { width = b.width; value = b.value })
    either true e = hex_literal b h (eqb-true (b.width % 4) 0 e)
    either false e = binary_literal b h
