-- Hex digits behind `0x` are a literal token, and the number that they spell.
use Rattle.std.proofs.Common.{◌≡◌, ℕ, ◌*◌, ◌^◌, ◌<◌, ◌⊎◌, Bool, true, false, not, ◌&&◌, ◌==◌, cond, [], ◌∷◌, length, drop, refl, ap, sym, ◌∙◌, inl, inr, arith, Some, None, IsSome, unwrap_or, subst}
use Rattle.std.specs.Prelude.{if◌then◌else◌}
use Rattle.std.specs.Char.{is_ascii_hexdigit, digit_value}
use Rattle.std.specs.List.{list_all}
use Rattle.std.specs.Str.Parse.{AllDigits, digits_value}
use Rattle.std.proofs.lemmas.Bool.{and_parts, and_from, cond-true, eqb-true, lt-ltb, le-leb}
use Rattle.std.proofs.lemmas.Bool.Decides.{nat_tests}
use Rattle.std.proofs.lemmas.Int.Digits.{digits_value-lt}
use Rattle.lex_core.specs.declared.token.Kind.{Kind}
use Rattle.lex_core.specs.declared.token.Kind.TheVariants as kind
use Rattle.lex_core.specs.Classes.{Text, is_in, is_underscore, digits}
use Rattle.lex_core.specs.Forms.{are_digits, is_literal, has_form}
use Rattle.lex_core.specs.Lexing as lexing
use Rattle.lex_core.specs.Values.{literal_of}
use Rattle.state_core.specs.Word.{IsWord}
use Rattle.trace_words.specs.Opcode.{behind_0x, word_bytes, IsHexWord}

-- ---- hex digits

-- a hex digit is no `_`
no_underscore : (b : ℕ) → is_ascii_hexdigit b ≡ true → is_underscore b ≡ false
no_underscore b h = grind (arith, nat_tests)

-- its value is below 16
below_16 : (b : ℕ) → is_ascii_hexdigit b ≡ true → digit_value b < 16
below_16 b h = grind (arith, nat_tests)

-- hex digits alone: none of them is a `_`
digits-hex : (z : Text) → list_all is_ascii_hexdigit z ≡ true → digits z ≡ z
digits-hex [] h = refl
digits-hex (b ∷ z) h =
    let parts = and_parts (is_ascii_hexdigit b) (list_all is_ascii_hexdigit z) h in
    ap (λ u. cond (not u) (b ∷ digits z) (digits z)) (no_underscore b parts.0) ∙ ap (λ x. b ∷ x) (digits-hex z parts.1)

-- and digits of a class that has them
are_digits-hex : (c : _) → ((b : ℕ) → is_ascii_hexdigit b ≡ true → is_in c b ≡ true) → (after : Bool) (z : Text) → list_all is_ascii_hexdigit z ≡ true → are_digits c after z ≡ true
are_digits-hex c has after [] h = refl
are_digits-hex c has after (b ∷ z) h =
    let parts = and_parts (is_ascii_hexdigit b) (list_all is_ascii_hexdigit z) h in
    cond-true (is_in c b) _ _ (has b parts.0) ∙ are_digits-hex c has true z parts.1

all_digits : (z : Text) → list_all is_ascii_hexdigit z ≡ true → AllDigits 16 z
all_digits [] h = tt
all_digits (b ∷ z) h =
    let parts = and_parts (is_ascii_hexdigit b) (list_all is_ascii_hexdigit z) h in
    (below_16 b parts.0, all_digits z parts.1)

-- ---- how many there are

-- eight digits, or four
pub record IsSized (n bytes : ℕ) : Type 0 where
  pub either : ((n ≡ 8) × (bytes ≡ 4)) ⊎ ((n ≡ 4) × (bytes ≡ 2))

sized_by : (n bytes : ℕ) (a b : Bool) → (n == 8) ≡ a → (n == 4) ≡ b → (if a then Some 4 else (if b then Some 2 else None)) ≡ Some bytes → IsSized n bytes
sized_by n bytes true b p q e = record { either = inl (eqb-true n 8 p, sym (ap (λ o. unwrap_or o bytes) e)) }
sized_by n bytes false true p q e = record { either = inr (eqb-true n 4 q, sym (ap (λ o. unwrap_or o bytes) e)) }
sized_by n bytes false false p q e = absurd (cc)

pub sized : (n bytes : ℕ) → word_bytes n ≡ Some bytes → IsSized n bytes
sized n bytes e = sized_by n bytes (n == 8) (n == 4) refl refl e

-- so many digits spell a number that fits in so many bytes
fits : (z : Text) (bytes : ℕ) → list_all is_ascii_hexdigit z ≡ true → IsSized (length z) bytes → digits_value 16 z < 2 ^ (8 * bytes)
fits z bytes hex size =
    let small = digits_value-lt 16 z (all_digits z hex) in
    elim size.either [
      | inl p ↦ subst (λ k. digits_value 16 z < 2 ^ (8 * k)) (sym p.1) (subst (λ k. digits_value 16 z < 16 ^ k) p.0 small)
      | inr p ↦ subst (λ k. digits_value 16 z < 2 ^ (8 * k)) (sym p.1) (subst (λ k. digits_value 16 z < 16 ^ k) p.0 small)
    ]

-- the word that digits spell
pub is_word : (z : Text) (bytes : ℕ) → list_all is_ascii_hexdigit z ≡ true → word_bytes (length z) ≡ Some bytes → IsWord (record { bytes = bytes; bits = digits_value 16 z })
is_word z bytes hex e =
    let size = sized (length z) bytes e in
    record { size = elim size.either [ inl p ↦ inr p.1 | inr p ↦ inl p.1 ]; fits = fits z bytes hex size }

-- ---- behind `0x`

-- a text that begins with `0x`
pub record Begins (z digits : Text) : Type 0 where
  pub is : z ≡ 48 ∷ 120 ∷ digits

begins_by : (a b : ℕ) (z digits : Text) (u v : Bool) → (a == 48) ≡ u → (b == 120) ≡ v → (if u && v then Some z else None) ≡ Some digits → Begins (a ∷ b ∷ z) digits
begins_by a b z digits true true p q e =
    record { is = ap (λ x. x ∷ b ∷ z) (eqb-true a 48 p) ∙ ap (λ x. 48 ∷ x ∷ z) (eqb-true b 120 q) ∙ ap (λ (y : Text). 48 ∷ 120 ∷ y) (ap (λ o. unwrap_or o digits) e) }
begins_by a b z digits true false p q e = absurd (cc)
begins_by a b z digits false v p q e = absurd (cc)

begins : (z digits : Text) → behind_0x z ≡ Some digits → Begins z digits
begins [] digits e = absurd (cc)
begins (a ∷ []) digits e = absurd (cc)
begins (a ∷ b ∷ z) digits e = begins_by a b z digits (a == 48) (b == 120) refl refl e

-- so many digits are a literal token
literal_form : (k : Kind) (c : _) → lexing.front (48 ∷ 120 ∷ []) ≡ lexing.literal k c 32 (48 ∷ 120 ∷ []) → ((b : ℕ) → is_ascii_hexdigit b ≡ true → is_in c b ≡ true) → (z : Text) → list_all is_ascii_hexdigit z ≡ true → 0 < length z → length z < 33 → is_literal 120 c 32 (48 ∷ 120 ∷ z) ≡ true
literal_form k c class has z hex some few =
    let same = ap length (digits-hex z hex) in
    and_from _ _ (and_from _ _ (are_digits-hex c has false z hex) (lt-ltb 0 (length (digits z)) (omega arith))) (le-leb (length (digits z)) 32 (omega arith))

form_of : (z : Text) → list_all is_ascii_hexdigit z ≡ true → 0 < length z → length z < 33 → has_form kind.Hex (48 ∷ 120 ∷ z) ≡ true
unfolding has_form lexing.front
form_of z hex some few = literal_form kind.Hex _ refl (λ b h. h) z hex some few

-- the number of bytes is there
bytes_there : (n : ℕ) (a b : Bool) → (n == 8) ≡ a → (n == 4) ≡ b → IsSome {T = ℕ} (if a then Some 4 else (if b then Some 2 else None)) → (bytes : ℕ) × (IsSized n bytes)
bytes_there n true b p q e = (4, record { either = inl (eqb-true n 8 p, refl) })
bytes_there n false true p q e = (2, record { either = inr (eqb-true n 4 q, refl) })
bytes_there n false false p q e = absurd (cc)

-- what a word's text is: a literal token, whose number fits in four bytes
pub record IsToken (z : Text) : Type 0 where
  pub form : has_form kind.Hex z ≡ true
  pub value : literal_of kind.Hex z ≡ Some (record { width = 4 * length (digits (drop 2 z)); value = digits_value 16 (drop 2 z) })
  pub small : digits_value 16 (drop 2 z) < 2 ^ 32

token_of : (z : Text) (bytes : ℕ) → list_all is_ascii_hexdigit z ≡ true → IsSized (length z) bytes → IsToken (48 ∷ 120 ∷ z)
unfolding literal_of
token_of z bytes hex size =
    let long : (0 < length z) × (length z < 33) × (bytes < 5) = elim size.either [ inl p ↦ (omega arith, omega arith, omega arith) | inr p ↦ (omega arith, omega arith, omega arith) ] in
    record {
      form = form_of z hex long.0 long.1;
      value = ap (λ (y : Text). Some (record { width = 4 * length (digits z); value = digits_value 16 y })) (digits-hex z hex);
      small = elim size.either [
        | inl p ↦ subst (λ k. digits_value 16 z < 2 ^ (8 * k)) p.1 (fits z bytes hex size)
        | inr p ↦ let few : digits_value 16 z < 2 ^ (8 * 2) = subst (λ k. digits_value 16 z < 2 ^ (8 * k)) p.1 (fits z bytes hex size) in omega arith
      ];
    }

pub is_token : (z : Text) → IsHexWord z → IsToken z
is_token z h =
    let there = bytes_there (length h.digits) (length h.digits == 8) (length h.digits == 4) refl refl h.sized in
    subst IsToken (sym (begins z h.digits h.behind).is) (token_of h.digits there.0 h.hex there.1)

-- the word that the digits behind `0x` spell
pub word_is : (z digits : Text) (bytes bits : ℕ) → behind_0x z ≡ Some digits → list_all is_ascii_hexdigit digits ≡ true → word_bytes (length digits) ≡ Some bytes
    → bits ≡ digits_value 16 (drop 2 z) → IsWord (record { bytes = bytes; bits = bits })
word_is z digits bytes bits behind hex e is =
    let same : digits_value 16 (drop 2 z) ≡ digits_value 16 digits = ap (λ (y : Text). digits_value 16 (drop 2 y)) (begins z digits behind).is in
    subst (λ n. IsWord (record { bytes = bytes; bits = n })) (sym (is ∙ same)) (is_word digits bytes hex e)
