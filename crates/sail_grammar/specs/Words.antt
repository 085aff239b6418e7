-- The words of the grammar: what a token is to it, and where it begins.
use Rattle.std.specs.Prelude.{ℕ, Bool, List, [], ◌∷◌, map, Option, Some, None, codes, bytes_eq, slice_range, if◌then◌else◌}
use Rattle.lex_core.specs.declared.token.Kind.{Kind}
use Rattle.lex_core.specs.declared.token.Kind.TheVariants as kind
use Rattle.lex_core.specs.declared.token.Token.{Token}
use Rattle.lex_core.specs.declared.token.Literal.{Literal}
use Rattle.lex_core.specs.Forms.{bytes_of}
use Rattle.lex_core.specs.Values.{literal_of, number_of, inside_of}
use Rattle.bv_bits.specs.declared.Bits.{Bits}
use Rattle.sail_syntax.specs.Tree.{Text}
use Rattle.sail_syntax.specs.declared.tree.Infix.{Infix}
use Rattle.sail_syntax.specs.declared.tree.Infix.TheVariants as between
use Rattle.sail_grammar.specs.declared.keyword.Keyword.{Keyword}
use Rattle.sail_grammar.specs.declared.keyword.Keyword.TheVariants as k
use Rattle.sail_grammar.specs.declared.mark.Mark.{Mark}
use Rattle.sail_grammar.specs.declared.mark.Mark.TheVariants as m
use Rattle.sail_grammar.specs.declared.word.Sign.{Sign}
use Rattle.sail_grammar.specs.declared.word.Sign.TheVariants as sign
use Rattle.sail_grammar.specs.declared.word.Word.{Word}

abbrev pub Words : Type 0
Words = List Word

-- a quoted word at a place
abbrev pub the : Keyword → ℕ → Word
the word at = record { sign = sign.Keyword word; at = at }

-- a mark at a place
abbrev pub its : Mark → ℕ → Word
its which at = record { sign = sign.Mark which; at = at }

-- a name at a place
abbrev pub named : Text → ℕ → Word
named x at = record { sign = sign.Name x; at = at }

-- a number at a place
abbrev pub counted : ℕ → ℕ → Word
counted n at = record { sign = sign.Number n; at = at }

-- a literal at a place
abbrev pub valued : Bits → ℕ → Word
valued b at = record { sign = sign.Literal b; at = at }

-- a text at a place
abbrev pub quoted : Text → ℕ → Word
quoted z at = record { sign = sign.Text z; at = at }

-- an operator at a place
abbrev pub joining : Infix → ℕ → Word
joining op at = record { sign = sign.Operator op; at = at }

-- where words begin; 0 where there is none
abbrev pub place : Words → ℕ
place [] = 0
place (w ∷ ws) = w.at

-- ---- from tokens

-- what stands beside the first text that is this one
abbrev pub looked_up : {A : Type 0} → List (Text × A) → Text → Option A
looked_up [] z = None
looked_up (p ∷ rest) z = if bytes_eq p.0 z then Some p.1 else looked_up rest z

-- the quoted words
unfoldable pub keywords : List (Text × Keyword)
keywords =
    (codes "default", k.Default) ∷ (codes "Order", k.Order) ∷ (codes "dec", k.Dec)
    ∷ (codes "register", k.Register) ∷ (codes "enum", k.Enum) ∷ (codes "val", k.Val) ∷ (codes "function", k.Function)
    ∷ (codes "bits", k.Bits) ∷ (codes "bool", k.Bool) ∷ (codes "unit", k.Unit)
    ∷ (codes "if", k.If) ∷ (codes "then", k.Then) ∷ (codes "else", k.Else) ∷ (codes "match", k.Match)
    ∷ (codes "foreach", k.Foreach) ∷ (codes "from", k.From) ∷ (codes "to", k.To) ∷ (codes "with", k.With)
    ∷ (codes "true", k.True) ∷ (codes "false", k.False)
    ∷ (codes "zero_extend", k.ZeroExtend) ∷ (codes "sign_extend", k.SignExtend)
    ∷ (codes "assert", k.Assert) ∷ (codes "exit", k.Exit) ∷ (codes "let", k.Let) ∷ (codes "var", k.Var)
    ∷ (codes "_", k.Wildcard) ∷ []

-- the operators between operands
unfoldable pub operators : List (Text × Infix)
operators =
    (codes "+", between.Add) ∷ (codes "-", between.Sub) ∷ (codes "*", between.Mul)
    ∷ (codes "&", between.And) ∷ (codes "|", between.Or) ∷ (codes "^", between.Xor)
    ∷ (codes "@", between.Join) ∷ (codes "==", between.Eq) ∷ (codes "!=", between.Ne) ∷ []

-- the other marks
unfoldable pub marks : List (Text × Mark)
marks =
    (codes "->", m.Arrow) ∷ (codes "=>", m.FatArrow) ∷ (codes "..", m.Dots)
    ∷ (codes "(", m.Open) ∷ (codes ")", m.Close) ∷ (codes "[", m.OpenSquare) ∷ (codes "]", m.CloseSquare)
    ∷ (codes "{", m.OpenBrace) ∷ (codes "}", m.CloseBrace) ∷ (codes ",", m.Comma) ∷ (codes ";", m.Semicolon)
    ∷ (codes ":", m.Colon) ∷ (codes "=", m.Equals) ∷ (codes "~", m.Tilde) ∷ []

-- the sign that something stands for, and another one where it is not there
abbrev pub sign_or : {A : Type 0} → (A → Sign) → Sign → Option A → Sign
sign_or make other (Some x) = make x
sign_or make other None = other

-- a mark that the grammar has no use of
abbrev pub no_sign : Sign
no_sign = sign.Mark m.Other

-- the sign of a mark
abbrev pub mark_of : Text → Sign
mark_of z = sign_or sign.Operator (sign_or sign.Mark no_sign (looked_up marks z)) (looked_up operators z)

-- the bits of a literal
abbrev pub as_bits : Literal → Bits
as_bits b = record { width = b.width; value = b.value }

-- the sign of a token, by its kind and its bytes
abbrev pub sign_of : Kind → Text → Sign
sign_of kind.Name z = sign_or sign.Keyword (sign.Name z) (looked_up keywords z)
sign_of kind.Number z = sign_or sign.Number no_sign (number_of kind.Number z)
sign_of kind.Hex z = sign_or (λ b. sign.Literal (as_bits b)) no_sign (literal_of kind.Hex z)
sign_of kind.Binary z = sign_or (λ b. sign.Literal (as_bits b)) no_sign (literal_of kind.Binary z)
sign_of kind.Text z = sign_or sign.Text no_sign (inside_of kind.Text z)
sign_of kind.Mark z = mark_of z

-- the word of a token of a kind, by its bytes and its place
abbrev pub word_of : Kind → Text → ℕ → Word
word_of k z at = record { sign = sign_of k z; at = at }

-- the words that the tokens of a text are
abbrev pub words_of : Text → List Token → Words
words_of z ts = map (λ t. word_of t.kind (bytes_of z t) t.from) ts
