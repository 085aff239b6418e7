-- The words of a text are signs that tokens can be.
use Rattle.std.proofs.Common.{◌≡◌, ℕ, ◌+◌, ◌-◌, ◌*◌, ◌<◌, ◌≤◌, ◌^◌, Bool, true, false, ◌&&◌, ◌==◌, List, [], ◌∷◌, ◌++◌, length, drop, map, Option, Some, None, refl, sym, ap, subst, ◌∙◌, arith}
use Rattle.std.specs.Bool.{⊤}
use Rattle.std.specs.List.{All}
use Rattle.std.proofs.lemmas.List.Elements.{All-head, All-tail}
use Rattle.std.proofs.lemmas.Bool.{false≢true, and_parts, eqb-true}
use Rattle.lex_core.specs.declared.token.Kind.{Kind}
use Rattle.lex_core.specs.declared.token.Kind.TheVariants as kind
use Rattle.lex_core.specs.declared.token.Token.{Token}
use Rattle.lex_core.specs.Classes.{digits}
use Rattle.lex_core.specs.Forms.{is_closed, is_quoted, has_form, bytes_of, IsTokenOf}
use Rattle.lex_core.specs.Values.{spelled, IsLiteralOf, literal_of, number_of, inside_of}
use Rattle.lex_core.proofs.FormLemmas.{hex_literal, binary_literal, number_digits, number_bound}
use Rattle.lex_core.proofs.ValueLemmas.{spelled-small, pow-each}
use Rattle.bv_bits.specs.Bits.{IsBits}
use Rattle.sail_syntax.specs.Tree.{Text}
use Rattle.sail_syntax.specs.declared.tree.Infix.{Infix}
use Rattle.sail_grammar.specs.declared.keyword.Keyword.{Keyword}
use Rattle.sail_grammar.specs.declared.mark.Mark.{Mark}
use Rattle.sail_grammar.specs.declared.word.Sign.{Sign}
use Rattle.sail_grammar.specs.declared.word.Sign.TheVariants as sign
use Rattle.sail_grammar.specs.declared.word.Word.{Word}
use Rattle.sail_grammar.specs.Words.{Words, keywords, operators, marks, looked_up, sign_or, no_sign, sign_of, mark_of, words_of}
use Rattle.sail_printed.specs.Forms.{IsName}
use Rattle.sail_printed.proofs.Signs.{IsSign, text_read}

-- the signs of words are ones that tokens can be
abbrev pub HaveSigns : Words → Type 0
HaveSigns [] = ⊤
HaveSigns (w ∷ ws) = IsSign w.sign × HaveSigns ws

-- ---- by kind

name_sign : (z : Text) → has_form kind.Name z ≡ true → (found : Option Keyword) → looked_up keywords z ≡ found → IsSign (sign_or sign.Keyword (sign.Name z) found)
name_sign z h None e = record { form = h; free = e }
name_sign z h (Some w) e = tt

number_sign : (z : Text) → has_form kind.Number z ≡ true → IsSign (sign_of kind.Number z)
unfolding number_of
number_sign z h =
    let shape = number_digits kind.Number z refl h in
    omega (arith, number_bound z shape, spelled-small 10 z shape.body)

hex_sign : (z : Text) → has_form kind.Hex z ≡ true → IsSign (sign_of kind.Hex z)
unfolding literal_of
hex_sign z h =
    let shape = hex_literal kind.Hex z refl h in
    let small = spelled-small 16 (drop 2 z) shape.body in
    let power = pow-each 16 4 (length (digits (drop 2 z))) refl in
    record { positive = omega (arith, shape.some); at_most = shape.within; fits = omega (arith, small, power) }

binary_sign : (z : Text) → has_form kind.Binary z ≡ true → IsSign (sign_of kind.Binary z)
unfolding literal_of
binary_sign z h =
    let shape = binary_literal kind.Binary z refl h in
    let small = spelled-small 2 (drop 2 z) shape.body in
    let power = pow-each 2 1 (length (digits (drop 2 z))) refl in
    record { positive = omega (arith, shape.some); at_most = shape.within; fits = omega (arith, small, power) }

-- bytes that a quote closes end with it
closed_ends : (z : Text) → is_closed z ≡ true → (y : Text) × (z ≡ y ++ 34 ∷ [])
closed_ends [] h = absurd (false≢true h)
closed_ends (b ∷ []) h = ([], ap (λ (a : ℕ). a ∷ []) (eqb-true b 34 h))
closed_ends (b ∷ c ∷ z) h =
    let parts = and_parts _ (is_closed (c ∷ z)) h in
    let rest = closed_ends (c ∷ z) parts.1 in
    (b ∷ rest.0, ap (λ (y : Text). b ∷ y) rest.1)

quoted_ends : (z : Text) → is_quoted z ≡ true → (y : Text) × (z ≡ 34 ∷ (y ++ 34 ∷ []))
quoted_ends [] h = absurd (false≢true h)
quoted_ends (b ∷ z) h =
    let parts = and_parts (b == 34) (is_closed z) h in
    let rest = closed_ends z parts.1 in
    (rest.0, ap (λ (a : ℕ). a ∷ z) (eqb-true b 34 parts.0) ∙ ap (λ (y : Text). 34 ∷ y) rest.1)

quotes : (z : Text) → has_form kind.Text z ≡ true → is_quoted z ≡ true
unfolding has_form
quotes z h = h

text_sign : (z : Text) → has_form kind.Text z ≡ true → IsSign (sign_of kind.Text z)
text_sign z h =
    let ends = quoted_ends z (quotes z h) in
    let inside : IsSign (sign.Text ends.0) = subst (λ (y : Text). has_form kind.Text y ≡ true) ends.1 h in
    subst IsSign (sym (ap (sign_of kind.Text) ends.1 ∙ text_read ends.0)) inside

mark_sign : (operator : Option Infix) (mark : Option Mark) → IsSign (sign_or sign.Operator (sign_or sign.Mark no_sign mark) operator)
mark_sign (Some op) mark = tt
mark_sign None (Some w) = tt
mark_sign None None = tt

kind_sign : (k : Kind) (z : Text) → has_form k z ≡ true → IsSign (sign_of k z)
kind_sign kind.Name z h = name_sign z h (looked_up keywords z) refl
kind_sign kind.Number z h = number_sign z h
kind_sign kind.Hex z h = hex_sign z h
kind_sign kind.Binary z h = binary_sign z h
kind_sign kind.Text z h = text_sign z h
kind_sign kind.Mark z h = mark_sign (looked_up operators z) (looked_up marks z)

-- ---- of a text

pub words_have_signs : (text : Text) (ts : List Token) → All (IsTokenOf text) ts → HaveSigns (words_of text ts)
words_have_signs text [] h = tt
words_have_signs text (t ∷ ts) h = (kind_sign t.kind (bytes_of text t) (All-head (IsTokenOf text) t ts h).form, words_have_signs text ts (All-tail (IsTokenOf text) t ts h))
