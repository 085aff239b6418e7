-- The text of a program of the form that the grammar has a spelling for is ASCII, and so UTF-8.
use Rattle.std.proofs.Common.{◌≡◌, ℕ, ◌<◌, Bool, true, false, not, ◌&&◌, ◌==◌, List, [], ◌∷◌, ◌++◌, drop, refl, sym, subst, arith}
use Rattle.std.specs.Prelude.{nat_le, nat_lt}
use Rattle.std.specs.List.{list_all}
use Rattle.std.specs.Str.{IsAscii, IsUtf8}
use Rattle.std.proofs.lemmas.Bool.{false≢true, and_parts, eqb-true, ltb-true}
use Rattle.std.proofs.lemmas.Bool.Decides.{nat_tests}
use Rattle.std.proofs.lemmas.Fmt.{IsAscii-decimal}
use Rattle.std.proofs.lemmas.Str.{IsAscii-append, IsAscii-drop, IsUtf8-from_ascii}
use Rattle.std.proofs.lemmas.Str.Ascii.{IsAscii-nil, IsAscii-cons}
use Rattle.lex_core.specs.declared.token.Kind.TheVariants as kind
use Rattle.lex_core.specs.Forms.{is_closed, has_form}
use Rattle.bit_text.proofs.AsciiLemmas.{literal_ascii, name_ascii}
use Rattle.sail_syntax.specs.Tree.{Text}
use Rattle.sail_syntax.specs.Program.{Definition}
use Rattle.sail_syntax.specs.declared.tree.Infix.{Infix}
use Rattle.sail_syntax.specs.declared.tree.Infix.TheVariants as between
use Rattle.sail_grammar.specs.declared.keyword.Keyword.{Keyword}
use Rattle.sail_grammar.specs.declared.keyword.Keyword.TheVariants as k
use Rattle.sail_grammar.specs.declared.mark.Mark.{Mark}
use Rattle.sail_grammar.specs.declared.mark.Mark.TheVariants as m
use Rattle.sail_grammar.specs.declared.word.Sign.{Sign}
use Rattle.sail_grammar.specs.declared.word.Sign.TheVariants as sign
use Rattle.sail_text.specs.Definitions.{printed}
use Rattle.sail_printed.specs.Forms.{IsFormedProgram}
use Rattle.sail_printed.proofs.Signs.{keyword_text, operator_text, mark_text, sign_text, IsSign, AreSigns}
use Rattle.sail_printed.proofs.Shown.{Signs, keyword_gap, gap, behind, program_signs}
use Rattle.sail_printed.proofs.SignLemmas.{program_good}
use Rattle.sail_printed.proofs.TextLemmas.{program_is}

-- ---- words and marks

abbrev small : ℕ → Bool
small b = nat_lt b 128

small_ascii : (z : Text) → list_all small z ≡ true → IsAscii z
small_ascii [] h = IsAscii-nil
small_ascii (b ∷ z) h =
    let parts = and_parts (small b) (list_all small z) h in
    IsAscii-cons b z (ltb-true b 128 parts.0) (small_ascii z parts.1)

keyword_small : (w : Keyword) → list_all small (keyword_text w) ≡ true
keyword_small k.Default = refl
keyword_small w = refl

operator_small : (op : Infix) → list_all small (operator_text op) ≡ true
operator_small between.Add = refl
operator_small op = refl

mark_small : (w : Mark) → list_all small (mark_text w) ≡ true
mark_small m.Arrow = refl
mark_small w = refl

-- ---- texts in quotes

inside_small : (b : ℕ) → (nat_le 32 b && nat_lt b 127 && not (b == 34) && not (b == 92)) ≡ true → b < 128
inside_small b h = grind (arith, nat_tests)

closed_ascii : (z : Text) → is_closed z ≡ true → IsAscii z
closed_ascii [] h = absurd (false≢true h)
closed_ascii (b ∷ []) h = IsAscii-cons b [] (omega (arith, eqb-true b 34 h)) IsAscii-nil
closed_ascii (b ∷ c ∷ z) h =
    let parts = and_parts (nat_le 32 b && nat_lt b 127 && not (b == 34) && not (b == 92)) (is_closed (c ∷ z)) h in
    IsAscii-cons b (c ∷ z) (inside_small b parts.0) (closed_ascii (c ∷ z) parts.1)

quoted_ascii : (z : Text) → has_form kind.Text z ≡ true → IsAscii z
unfolding has_form
quoted_ascii [] h = absurd (false≢true h)
quoted_ascii (b ∷ z) h =
    let parts = and_parts (b == 34) (is_closed z) h in
    IsAscii-cons b z (omega (arith, eqb-true b 34 parts.0)) (closed_ascii z parts.1)

-- ---- signs

sign_ascii : (s : Sign) → IsSign s → IsAscii (sign_text s)
sign_ascii (sign.Keyword w) h = small_ascii (keyword_text w) (keyword_small w)
sign_ascii (sign.Name x) h = name_ascii x h.form
sign_ascii (sign.Number n) h = IsAscii-decimal n (omega (arith, h))
sign_ascii (sign.Literal b) h = literal_ascii b
sign_ascii (sign.Text z) h = quoted_ascii _ h
sign_ascii (sign.Operator op) h = small_ascii (operator_text op) (operator_small op)
sign_ascii (sign.Mark w) h = small_ascii (mark_text w) (mark_small w)

keyword_gap_small : (w : Keyword) → keyword_gap w < 128
keyword_gap_small k.Default = omega arith
keyword_gap_small w = omega arith

gap_small : (s : Sign) → gap s < 128
gap_small (sign.Keyword w) = keyword_gap_small w
gap_small (sign.Name x) = omega arith
gap_small s = omega arith

behind_ascii : (ss : Signs) → AreSigns ss → IsAscii (behind ss)
behind_ascii [] g = IsAscii-cons 10 [] (omega arith) IsAscii-nil
behind_ascii (s ∷ ss) g = IsAscii-cons (gap s) (sign_text s ++ behind ss) (gap_small s) (IsAscii-append (sign_text s) (behind ss) (sign_ascii s g.0) (behind_ascii ss g.1))

pub printed_utf8 : (ds : List Definition) → IsFormedProgram ds → IsUtf8 (printed ds)
printed_utf8 ds h =
    let whole : IsAscii (10 ∷ printed ds) = subst IsAscii (sym (program_is ds)) (behind_ascii (program_signs ds) (program_good ds h)) in
    IsUtf8-from_ascii (printed ds) (IsAscii-drop (10 ∷ printed ds) 1 whole)
