-- The texts of numbers, literals and operators are tokens that stand for them.
use Rattle.std.proofs.Common.{◌≡◌, ℕ, ◌%◌, ◌^◌, ◌≤◌, ◌<◌, Some, Bool, true, false, ◌&&◌, ◌==◌, nat_le, List, [], ◌∷◌, ◌++◌, map, refl, sym, ap, subst, arith}
use Rattle.std.specs.Bool.{⊤}
use Rattle.std.specs.Prelude.{if◌then◌else◌, IsSome}
use Rattle.std.specs.Fmt.{decimal}
use Rattle.std.proofs.lemmas.Bool.{false≢true, and_parts, leb-true}
use Rattle.bv_bits.specs.declared.Bits.{Bits}
use Rattle.bv_bits.specs.declared.Op.{Op}
use Rattle.bv_bits.specs.declared.Op.TheVariants.{UDiv, URem, SDiv, SRem, Extract, ZExt, SExt}
use Rattle.bv_bits.specs.Bits.{IsBits, result_width_of}
use Rattle.lex_core.specs.declared.token.Kind.TheVariants as kind
use Rattle.lex_core.specs.Forms.{has_form}
use Rattle.lex_core.specs.Values as values
use Rattle.term_tree.specs.Terms.{Text}
use Rattle.term_print.specs.Cutting.{IsCutAs}
use Rattle.bit_text.specs.Texts.{literal_text}
use Rattle.bit_text.specs.TextLaws.{literal_kind}
use Rattle.term_print.specs.Printing.{op_word, op_numbers, numbers_text, op_head}
use Rattle.term_tree.specs.Divisions.{is_division}
use Rattle.term_print.specs.Words.{Word, number, literal, name, opens, word_of, literal_word, number_word}
use Rattle.term_print.specs.TermWords.{head_words}
use Rattle.term_tree.proofs.WidthLemmas.{extract_parts}
use Rattle.term_tree.proofs.OperatorLemmas.{some_width}
use Rattle.bit_text.proofs.LiteralLemmas as literals
use Rattle.bit_text.proofs.TokenLemmas as texts
use Rattle.term_print.proofs.CutLemmas.{IsTail, token_cut, joined, opened, no_tail, spaced}

-- ---- numbers

number_stands : (n : ℕ) → n < 10 ^ 9 → word_of kind.Number (decimal n) ≡ number n
number_stands n h = ap number_word (texts.number_stands n h)

pub number_cut : (n : ℕ) → n < 10 ^ 9 → IsCutAs (decimal n) (number n ∷ [])
number_cut n h = subst (λ (w : Word). IsCutAs (decimal n) (w ∷ [])) (number_stands n h) (token_cut kind.Number (decimal n) (texts.number_form n h))

-- ---- literals

-- the text of a literal stands for it
pub literal_stands : (b : Bits) → IsBits b → word_of (literal_kind b) (literal_text b) ≡ literal b
literal_stands b h = either (b.width % 4 == 0) (literals.literal_stands b h)
  where
    either : (t : Bool) → values.literal_of (if t then kind.Hex else kind.Binary) (literal_text b) ≡ Some (record { width = b.width; value = b.value }) → word_of (if t then kind.Hex else kind.Binary) (literal_text b) ≡ literal b
    either true e = ap literal_word e
    either false e = ap literal_word e

pub literal_cut : (b : Bits) → IsBits b → IsCutAs (literal_text b) (literal b ∷ [])
literal_cut b h = subst (λ (w : Word). IsCutAs (literal_text b) (w ∷ [])) (literal_stands b h) (token_cut (literal_kind b) (literal_text b) (texts.literal_is_token b h))

-- ---- names and operators

pub name_cut : (x : Text) → has_form kind.Name x ≡ true → IsCutAs x (name x ∷ [])
name_cut x h = token_cut kind.Name x h

pub op_form : (op : Op) → is_division op ≡ false → has_form kind.Name (op_word op) ≡ true
unfolding has_form
op_form UDiv h = absurd (false≢true (sym h))
op_form URem h = absurd (false≢true (sym h))
op_form SDiv h = absurd (false≢true (sym h))
op_form SRem h = absurd (false≢true (sym h))
op_form op h = refl

-- numbers of at most nine digits
abbrev pub AreSmall : List ℕ → Type 0
AreSmall [] = ⊤
AreSmall (n ∷ ns) = (n < 10 ^ 9) × AreSmall ns

numbers_tail : (ns : List ℕ) → AreSmall ns → IsTail (numbers_text ns) (map number ns)
numbers_tail [] h = no_tail
numbers_tail (n ∷ ns) h = spaced (decimal n) (numbers_text ns) (number n ∷ []) (map number ns) (number_cut n h.0) (numbers_tail ns h.1)

-- an opening bracket, an operator and its numbers
pub head_cut : (op : Op) → is_division op ≡ false → AreSmall (op_numbers op) → IsCutAs (op_head op) (opens ∷ head_words op)
head_cut op h small =
    opened (op_word op ++ numbers_text (op_numbers op)) (head_words op)
    (joined (op_word op) (numbers_text (op_numbers op)) (name (op_word op) ∷ []) (map number (op_numbers op)) (name_cut (op_word op) (op_form op h)) (numbers_tail (op_numbers op) small))

-- ---- the numbers of operators that take their arguments

pub one_small : (op : Op) (w : ℕ) → w ≤ 128 → IsSome (result_width_of op (w ∷ [])) → AreSmall (op_numbers op)
one_small (Extract hi lo) w l h = let p = extract_parts hi lo w h in (omega (arith, p.1), (omega (arith, p.0, p.1), tt))
one_small (ZExt to) w l h =
    let p = and_parts (nat_le w to) (nat_le to 128) (some_width (nat_le w to && nat_le to 128) to h).0 in
    (omega (arith, leb-true to 128 p.1), tt)
one_small (SExt to) w l h =
    let p = and_parts (nat_le w to) (nat_le to 128) (some_width (nat_le w to && nat_le to 128) to h).0 in
    (omega (arith, leb-true to 128 p.1), tt)
one_small op w l h = tt

pub two_small : (op : Op) (v w : ℕ) → IsSome (result_width_of op (v ∷ w ∷ [])) → AreSmall (op_numbers op)
two_small (Extract hi lo) v w h = absurd (false≢true h)
two_small (ZExt to) v w h = absurd (false≢true h)
two_small (SExt to) v w h = absurd (false≢true h)
two_small op v w h = tt

pub three_small : (op : Op) (u v w : ℕ) → IsSome (result_width_of op (u ∷ v ∷ w ∷ [])) → AreSmall (op_numbers op)
three_small (Extract hi lo) u v w h = absurd (false≢true h)
three_small (ZExt to) u v w h = absurd (false≢true h)
three_small (SExt to) u v w h = absurd (false≢true h)
three_small op u v w h = tt
