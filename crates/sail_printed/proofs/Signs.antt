-- Signs as bytes: what each is written as, that it is cut and read as that sign again.
use Rattle.std.proofs.Common.{◌≡◌, ℕ, ◌+◌, ◌-◌, ◌<◌, ◌^◌, ◌==◌, ◌%◌, Bool, true, false, List, [], ◌∷◌, ◌++◌, length, take, Option, Some, None, refl, sym, ap, ◌∙◌, arith}
use Rattle.std.specs.Bool.{⊤}
use Rattle.std.specs.Prelude.{if◌then◌else◌, codes}
use Rattle.std.specs.Fmt.{decimal}
use Rattle.std.proofs.lemmas.List.{take_at, length-append}
use Rattle.bv_bits.specs.declared.Bits.{Bits}
use Rattle.bv_bits.specs.Bits.{IsBits}
use Rattle.lex_core.specs.declared.token.Kind.{Kind}
use Rattle.lex_core.specs.declared.token.Kind.TheVariants as kind
use Rattle.lex_core.specs.declared.token.Literal.{Literal}
use Rattle.lex_core.specs.Forms.{has_form}
use Rattle.lex_core.specs.Values.{literal_of, number_of, inside_of}
use Rattle.bit_text.specs.Texts.{literal_text}
use Rattle.bit_text.specs.TextLaws.{literal_kind}
use Rattle.bit_text.proofs.LiteralLemmas.{literal_stands}
use Rattle.bit_text.proofs.TokenLemmas.{literal_is_token, number_form, number_stands}
use Rattle.sail_syntax.specs.Tree.{Text}
use Rattle.sail_syntax.specs.declared.tree.Infix.{Infix}
use Rattle.sail_syntax.specs.declared.tree.Infix.TheVariants as between
use Rattle.sail_grammar.specs.declared.keyword.Keyword.{Keyword}
use Rattle.sail_grammar.specs.declared.keyword.Keyword.TheVariants as k
use Rattle.sail_grammar.specs.declared.mark.Mark.{Mark}
use Rattle.sail_grammar.specs.declared.mark.Mark.TheVariants as m
use Rattle.sail_grammar.specs.declared.word.Sign.{Sign}
use Rattle.sail_grammar.specs.declared.word.Sign.TheVariants as sign
use Rattle.sail_grammar.specs.Words.{keywords, operators, marks, looked_up, sign_or, no_sign, as_bits, sign_of}
use Rattle.sail_printed.specs.Forms.{IsName, IsInside}

-- ---- texts

abbrev pub keyword_text : Keyword → Text
keyword_text k.Default = codes "default"
keyword_text k.Order = codes "Order"
keyword_text k.Dec = codes "dec"
keyword_text k.Register = codes "register"
keyword_text k.Enum = codes "enum"
keyword_text k.Val = codes "val"
keyword_text k.Function = codes "function"
keyword_text k.Bits = codes "bits"
keyword_text k.Bool = codes "bool"
keyword_text k.Unit = codes "unit"
keyword_text k.If = codes "if"
keyword_text k.Then = codes "then"
keyword_text k.Else = codes "else"
keyword_text k.Match = codes "match"
keyword_text k.Foreach = codes "foreach"
keyword_text k.From = codes "from"
keyword_text k.To = codes "to"
keyword_text k.With = codes "with"
keyword_text k.True = codes "true"
keyword_text k.False = codes "false"
keyword_text k.ZeroExtend = codes "zero_extend"
keyword_text k.SignExtend = codes "sign_extend"
keyword_text k.Assert = codes "assert"
keyword_text k.Exit = codes "exit"
keyword_text k.Let = codes "let"
keyword_text k.Var = codes "var"
keyword_text k.Wildcard = codes "_"

abbrev pub operator_text : Infix → Text
operator_text between.Add = codes "+"
operator_text between.Sub = codes "-"
operator_text between.Mul = codes "*"
operator_text between.And = codes "&"
operator_text between.Or = codes "|"
operator_text between.Xor = codes "^"
operator_text between.Join = codes "@"
operator_text between.Eq = codes "=="
operator_text between.Ne = codes "!="

abbrev pub mark_text : Mark → Text
mark_text m.Arrow = codes "->"
mark_text m.FatArrow = codes "=>"
mark_text m.Dots = codes ".."
mark_text m.Open = codes "("
mark_text m.Close = codes ")"
mark_text m.OpenSquare = codes "["
mark_text m.CloseSquare = codes "]"
mark_text m.OpenBrace = codes "{"
mark_text m.CloseBrace = codes "}"
mark_text m.Comma = codes ","
mark_text m.Semicolon = codes ";"
mark_text m.Colon = codes ":"
mark_text m.Equals = codes "="
mark_text m.Tilde = codes "~"
mark_text m.Other = codes "?"

-- what a sign is written as
abbrev pub sign_text : Sign → Text
sign_text (sign.Keyword w) = keyword_text w
sign_text (sign.Name x) = x
sign_text (sign.Number n) = decimal n
sign_text (sign.Literal b) = literal_text b
sign_text (sign.Text z) = 34 ∷ (z ++ 34 ∷ [])
sign_text (sign.Operator op) = operator_text op
sign_text (sign.Mark w) = mark_text w

-- the kind of its token
abbrev pub kind_of : Sign → Kind
kind_of (sign.Keyword w) = kind.Name
kind_of (sign.Name x) = kind.Name
kind_of (sign.Number n) = kind.Number
kind_of (sign.Literal b) = literal_kind b
kind_of (sign.Text z) = kind.Text
kind_of (sign.Operator op) = kind.Mark
kind_of (sign.Mark w) = kind.Mark

-- a sign that a token can be
abbrev pub IsSign : Sign → Type 0
IsSign (sign.Keyword w) = ⊤
IsSign (sign.Name x) = IsName x
IsSign (sign.Number n) = n < 10 ^ 9
IsSign (sign.Literal b) = IsBits b
IsSign (sign.Text z) = IsInside z
IsSign (sign.Operator op) = ⊤
IsSign (sign.Mark w) = ⊤

abbrev pub AreSigns : List Sign → Type 0
AreSigns [] = ⊤
AreSigns (s ∷ ss) = IsSign s × AreSigns ss

-- ---- forms

keyword_form : (w : Keyword) → has_form kind.Name (keyword_text w) ≡ true
unfolding has_form
keyword_form k.Default = refl
keyword_form w = refl

operator_form : (op : Infix) → has_form kind.Mark (operator_text op) ≡ true
unfolding has_form
operator_form between.Add = refl
operator_form op = refl

mark_form : (w : Mark) → has_form kind.Mark (mark_text w) ≡ true
unfolding has_form
mark_form m.Arrow = refl
mark_form w = refl

pub sign_form : (s : Sign) → IsSign s → has_form (kind_of s) (sign_text s) ≡ true
sign_form (sign.Keyword w) h = keyword_form w
sign_form (sign.Name x) h = h.form
sign_form (sign.Number n) h = number_form n h
sign_form (sign.Literal b) h = literal_is_token b h
sign_form (sign.Text z) h = h
sign_form (sign.Operator op) h = operator_form op
sign_form (sign.Mark w) h = mark_form w

-- ---- what they are read as

keyword_read : (w : Keyword) → sign_of kind.Name (keyword_text w) ≡ sign.Keyword w
unfolding keywords
keyword_read k.Default = refl
keyword_read w = refl

operator_read : (op : Infix) → sign_of kind.Mark (operator_text op) ≡ sign.Operator op
unfolding operators marks
operator_read between.Add = refl
operator_read op = refl

mark_read : (w : Mark) → sign_of kind.Mark (mark_text w) ≡ sign.Mark w
unfolding operators marks
mark_read m.Arrow = refl
mark_read w = refl

literal_read : (b : Bits) → IsBits b → sign_of (literal_kind b) (literal_text b) ≡ sign.Literal b
literal_read b h = either (b.width % 4 == 0) (literal_stands b h)
  where
    either : (t : Bool) → literal_of (if t then kind.Hex else kind.Binary) (literal_text b) ≡ Some (record { width = b.width; value = b.value })
        → sign_of (if t then kind.Hex else kind.Binary) (literal_text b) ≡ sign.Literal b
    either true e = ap (sign_or (λ l. sign.Literal (as_bits l)) no_sign) e
    either false e = ap (sign_or (λ l. sign.Literal (as_bits l)) no_sign) e

pub text_read : (z : Text) → sign_of kind.Text (34 ∷ (z ++ 34 ∷ [])) ≡ sign.Text z
unfolding inside_of
text_read z =
    let size : (length (34 ∷ (z ++ 34 ∷ [])) - 1) - 1 ≡ length z = omega (arith, length-append z (34 ∷ [])) in
    ap (λ n. sign.Text (take n (z ++ 34 ∷ []))) size ∙ ap (λ (x : Text). sign.Text x) (take_at z (34 ∷ []) (length z) refl)

pub sign_read : (s : Sign) → IsSign s → sign_of (kind_of s) (sign_text s) ≡ s
sign_read (sign.Keyword w) h = keyword_read w
sign_read (sign.Name x) h = ap (sign_or sign.Keyword (sign.Name x)) h.free
sign_read (sign.Number n) h = ap (sign_or sign.Number no_sign) (number_stands n h)
sign_read (sign.Literal b) h = literal_read b h
sign_read (sign.Text z) h = text_read z
sign_read (sign.Operator op) h = operator_read op
sign_read (sign.Mark w) h = mark_read w
