-- Tests of words.
use Rattle.std.specs.Prelude.{ℕ, Bool, true, false, Option, Some, None, nat_eq}
use Rattle.sail_syntax.specs.declared.tree.Infix.{Infix}
use Rattle.sail_syntax.specs.declared.tree.Infix.TheVariants as between
use Rattle.sail_grammar.specs.declared.keyword.Keyword.{Keyword}
use Rattle.sail_grammar.specs.declared.keyword.Keyword.TheVariants as kw
use Rattle.sail_grammar.specs.declared.mark.Mark.{Mark}
use Rattle.sail_grammar.specs.declared.mark.Mark.TheVariants as m
use Rattle.sail_grammar.specs.declared.word.Sign.{Sign}
use Rattle.sail_grammar.specs.declared.word.Sign.TheVariants as sign
use Rattle.sail_grammar.specs.declared.word.Word.{Word}

-- the number of a quoted word
abbrev pub keyword_number : Keyword → ℕ
keyword_number kw.Default = 0
keyword_number kw.Order = 1
keyword_number kw.Dec = 2
keyword_number kw.Register = 3
keyword_number kw.Enum = 4
keyword_number kw.Val = 5
keyword_number kw.Function = 6
keyword_number kw.Bits = 7
keyword_number kw.Bool = 8
keyword_number kw.Unit = 9
keyword_number kw.If = 10
keyword_number kw.Then = 11
keyword_number kw.Else = 12
keyword_number kw.Match = 13
keyword_number kw.Foreach = 14
keyword_number kw.From = 15
keyword_number kw.To = 16
keyword_number kw.With = 17
keyword_number kw.True = 18
keyword_number kw.False = 19
keyword_number kw.ZeroExtend = 20
keyword_number kw.SignExtend = 21
keyword_number kw.Assert = 22
keyword_number kw.Exit = 23
keyword_number kw.Let = 24
keyword_number kw.Var = 25
keyword_number kw.Wildcard = 26

-- the number of a mark
abbrev pub mark_number : Mark → ℕ
mark_number m.Arrow = 0
mark_number m.FatArrow = 1
mark_number m.Dots = 2
mark_number m.Open = 3
mark_number m.Close = 4
mark_number m.OpenSquare = 5
mark_number m.CloseSquare = 6
mark_number m.OpenBrace = 7
mark_number m.CloseBrace = 8
mark_number m.Comma = 9
mark_number m.Semicolon = 10
mark_number m.Colon = 11
mark_number m.Equals = 12
mark_number m.Tilde = 13
mark_number m.Other = 14

-- the number of an operator
abbrev pub infix_number : Infix → ℕ
infix_number between.Add = 0
infix_number between.Sub = 1
infix_number between.Mul = 2
infix_number between.And = 3
infix_number between.Or = 4
infix_number between.Xor = 5
infix_number between.Join = 6
infix_number between.Eq = 7
infix_number between.Ne = 8

-- whether two operators are the same
abbrev pub same_infix : Infix → Infix → Bool
same_infix a b = nat_eq (infix_number a) (infix_number b)

-- whether a sign is this quoted word
abbrev pub is_keyword : Keyword → Sign → Bool
is_keyword word (sign.Keyword own) = nat_eq (keyword_number word) (keyword_number own)
is_keyword word (sign.Name x) = false
is_keyword word (sign.Number n) = false
is_keyword word (sign.Literal b) = false
is_keyword word (sign.Text z) = false
is_keyword word (sign.Operator op) = false
is_keyword word (sign.Mark which) = false

-- whether a sign is this mark
abbrev pub is_mark : Mark → Sign → Bool
is_mark which (sign.Keyword word) = false
is_mark which (sign.Name x) = false
is_mark which (sign.Number n) = false
is_mark which (sign.Literal b) = false
is_mark which (sign.Text z) = false
is_mark which (sign.Operator op) = false
is_mark which (sign.Mark own) = nat_eq (mark_number which) (mark_number own)

-- the operator that a sign is, if it is one
abbrev pub operator_in : Sign → Option Infix
operator_in (sign.Keyword word) = None
operator_in (sign.Name x) = None
operator_in (sign.Number n) = None
operator_in (sign.Literal b) = None
operator_in (sign.Text z) = None
operator_in (sign.Operator op) = Some op
operator_in (sign.Mark which) = None

-- whether a sign is this operator
abbrev pub is_operator : Infix → Sign → Bool
is_operator op (sign.Keyword word) = false
is_operator op (sign.Name x) = false
is_operator op (sign.Number n) = false
is_operator op (sign.Literal b) = false
is_operator op (sign.Text z) = false
is_operator op (sign.Operator own) = same_infix op own
is_operator op (sign.Mark which) = false

-- what comes behind an expression: a word, or the end of the text; and its place
pub record Next : Type 0 where
  pub sign : Option Sign
  pub at : ℕ

-- a word that comes next
abbrev pub next_word : Word → Next
next_word w = record { sign = Some w.sign; at = w.at }

-- the end of the text
abbrev pub at_end : ℕ → Next
at_end at = record { sign = None; at = at }

-- whether a test holds for a sign that is there
abbrev pub is_there : (Sign → Bool) → Option Sign → Bool
is_there test None = false
is_there test (Some s) = test s

-- whether this quoted word comes next
abbrev pub meets_keyword : Keyword → Next → Bool
meets_keyword word n = is_there (is_keyword word) n.sign

-- whether this mark comes next
abbrev pub meets : Mark → Next → Bool
meets which n = is_there (is_mark which) n.sign
