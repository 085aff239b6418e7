-- What a sign is that a test holds for.
use Rattle.std.proofs.Common.{◌≡◌, ℕ, zero, suc, true, List, [], ◌∷◌, Option, Some, refl, sym, ap, ◌∙◌, eqb-true}
use Rattle.std.specs.Prelude.{nat_eq}
use Rattle.sail_syntax.specs.declared.tree.Infix.{Infix}
use Rattle.sail_syntax.specs.declared.tree.Infix.TheVariants as between
use Rattle.sail_grammar.specs.declared.keyword.Keyword.{Keyword}
use Rattle.sail_grammar.specs.declared.keyword.Keyword.TheVariants as kw
use Rattle.sail_grammar.specs.declared.mark.Mark.{Mark}
use Rattle.sail_grammar.specs.declared.mark.Mark.TheVariants as m
use Rattle.sail_grammar.specs.declared.word.Sign.{Sign}
use Rattle.sail_grammar.specs.declared.word.Sign.TheVariants as sign
use Rattle.sail_machine.specs.Signs.{keyword_number, mark_number, infix_number, same_infix, is_keyword, is_mark, is_operator, operator_in}
use Rattle.sail_machine.specs.Headers.{is_sign}

-- the member of this number, and d where there is none
abbrev numbered : {A : Type 0} → A → List A → ℕ → A
numbered d [] n = d
numbered d (x ∷ xs) zero = x
numbered d (x ∷ xs) (suc n) = numbered d xs n

abbrev keywords : ℕ → Keyword
keywords n = numbered kw.Wildcard (kw.Default ∷ kw.Order ∷ kw.Dec ∷ kw.Register ∷ kw.Enum ∷ kw.Val ∷ kw.Function ∷ kw.Bits ∷ kw.Bool ∷ kw.Unit ∷ kw.If ∷ kw.Then ∷ kw.Else ∷ kw.Match ∷ kw.Foreach ∷ kw.From ∷ kw.To ∷ kw.With
    ∷ kw.True ∷ kw.False ∷ kw.ZeroExtend ∷ kw.SignExtend ∷ kw.Assert ∷ kw.Exit ∷ kw.Let ∷ kw.Var ∷ []) n

abbrev marks : ℕ → Mark
marks n = numbered m.Other (m.Arrow ∷ m.FatArrow ∷ m.Dots ∷ m.Open ∷ m.Close ∷ m.OpenSquare ∷ m.CloseSquare ∷ m.OpenBrace ∷ m.CloseBrace ∷ m.Comma ∷ m.Semicolon ∷ m.Colon ∷ m.Equals ∷ m.Tilde ∷ []) n

abbrev operators : ℕ → Infix
operators n = numbered between.Ne (between.Add ∷ between.Sub ∷ between.Mul ∷ between.And ∷ between.Or ∷ between.Xor ∷ between.Join ∷ between.Eq ∷ []) n

keyword_back : (w : Keyword) → keywords (keyword_number w) ≡ w
keyword_back kw.Default = refl
keyword_back kw.Order = refl
keyword_back kw.Dec = refl
keyword_back kw.Register = refl
keyword_back kw.Enum = refl
keyword_back kw.Val = refl
keyword_back kw.Function = refl
keyword_back kw.Bits = refl
keyword_back kw.Bool = refl
keyword_back kw.Unit = refl
keyword_back kw.If = refl
keyword_back kw.Then = refl
keyword_back kw.Else = refl
keyword_back kw.Match = refl
keyword_back kw.Foreach = refl
keyword_back kw.From = refl
keyword_back kw.To = refl
keyword_back kw.With = refl
keyword_back kw.True = refl
keyword_back kw.False = refl
keyword_back kw.ZeroExtend = refl
keyword_back kw.SignExtend = refl
keyword_back kw.Assert = refl
keyword_back kw.Exit = refl
keyword_back kw.Let = refl
keyword_back kw.Var = refl
keyword_back kw.Wildcard = refl

mark_back : (w : Mark) → marks (mark_number w) ≡ w
mark_back m.Arrow = refl
mark_back m.FatArrow = refl
mark_back m.Dots = refl
mark_back m.Open = refl
mark_back m.Close = refl
mark_back m.OpenSquare = refl
mark_back m.CloseSquare = refl
mark_back m.OpenBrace = refl
mark_back m.CloseBrace = refl
mark_back m.Comma = refl
mark_back m.Semicolon = refl
mark_back m.Colon = refl
mark_back m.Equals = refl
mark_back m.Tilde = refl
mark_back m.Other = refl

operator_back : (op : Infix) → operators (infix_number op) ≡ op
operator_back between.Add = refl
operator_back between.Sub = refl
operator_back between.Mul = refl
operator_back between.And = refl
operator_back between.Or = refl
operator_back between.Xor = refl
operator_back between.Join = refl
operator_back between.Eq = refl
operator_back between.Ne = refl

same_keyword : (v w : Keyword) → nat_eq (keyword_number v) (keyword_number w) ≡ true → v ≡ w
same_keyword v w h = sym (keyword_back v) ∙ ap keywords (eqb-true (keyword_number v) (keyword_number w) h) ∙ keyword_back w

same_mark : (v w : Mark) → nat_eq (mark_number v) (mark_number w) ≡ true → v ≡ w
same_mark v w h = sym (mark_back v) ∙ ap marks (eqb-true (mark_number v) (mark_number w) h) ∙ mark_back w

pub same_operator : (v w : Infix) → same_infix v w ≡ true → v ≡ w
same_operator v w h = sym (operator_back v) ∙ ap operators (eqb-true (infix_number v) (infix_number w) h) ∙ operator_back w

pub by_keyword : (word : Keyword) (s : Sign) → is_keyword word s ≡ true → s ≡ sign.Keyword word
by_keyword word (sign.Keyword own) h = ap (λ (k : Keyword). sign.Keyword k) (sym (same_keyword word own h))
by_keyword word (sign.Name x) h = absurd cc
by_keyword word (sign.Number n) h = absurd cc
by_keyword word (sign.Literal b) h = absurd cc
by_keyword word (sign.Text z) h = absurd cc
by_keyword word (sign.Operator op) h = absurd cc
by_keyword word (sign.Mark which) h = absurd cc

pub by_mark : (which : Mark) (s : Sign) → is_mark which s ≡ true → s ≡ sign.Mark which
by_mark which (sign.Keyword word) h = absurd cc
by_mark which (sign.Name x) h = absurd cc
by_mark which (sign.Number n) h = absurd cc
by_mark which (sign.Literal b) h = absurd cc
by_mark which (sign.Text z) h = absurd cc
by_mark which (sign.Operator op) h = absurd cc
by_mark which (sign.Mark own) h = ap (λ (k : Mark). sign.Mark k) (sym (same_mark which own h))

abbrev some_infix : Infix → Option Infix
some_infix op = Some op

same_some : (v w : Infix) → some_infix v ≡ some_infix w → v ≡ w
same_some v w h = cc

pub by_operator : (op : Infix) (s : Sign) → operator_in s ≡ Some op → s ≡ sign.Operator op
by_operator op (sign.Keyword word) h = absurd cc
by_operator op (sign.Name x) h = absurd cc
by_operator op (sign.Number n) h = absurd cc
by_operator op (sign.Literal b) h = absurd cc
by_operator op (sign.Text z) h = absurd cc
by_operator op (sign.Operator own) h = ap (λ (k : Infix). sign.Operator k) (same_some own op h)
by_operator op (sign.Mark which) h = absurd cc

pub by_this_operator : (op : Infix) (s : Sign) → is_operator op s ≡ true → s ≡ sign.Operator op
by_this_operator op (sign.Keyword word) h = absurd cc
by_this_operator op (sign.Name x) h = absurd cc
by_this_operator op (sign.Number n) h = absurd cc
by_this_operator op (sign.Literal b) h = absurd cc
by_this_operator op (sign.Text z) h = absurd cc
by_this_operator op (sign.Operator own) h = ap (λ (k : Infix). sign.Operator k) (sym (same_operator op own h))
by_this_operator op (sign.Mark which) h = absurd cc

pub by_sign : (v s : Sign) → is_sign v s ≡ true → s ≡ v
by_sign (sign.Keyword word) s h = by_keyword word s h
by_sign (sign.Mark which) s h = by_mark which s h
by_sign (sign.Name x) s h = absurd cc
by_sign (sign.Number n) s h = absurd cc
by_sign (sign.Literal b) s h = absurd cc
by_sign (sign.Text z) s h = absurd cc
by_sign (sign.Operator op) s h = absurd cc
