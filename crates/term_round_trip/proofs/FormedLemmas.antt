-- The words of a text that is cut: names have the form of names, and literals are values.
use Rattle.std.proofs.Common.{◌≡◌, ℕ, zero, suc, ◌^◌, ◌<◌, Bool, true, false, List, [], ◌∷◌, length, drop, Option, Some, None, Ok, refl, arith}
use Rattle.std.specs.Prelude.{⊤, All, bytes_eq, codes, if◌then◌else◌}
use Rattle.std.proofs.Math.Nat.{mul-pos}
use Rattle.std.proofs.lemmas.List.Elements.{All-head, All-tail}
use Rattle.bv_bits.specs.Bits.{IsBits}
use Rattle.lex_core.specs.declared.token.Kind.{Kind}
use Rattle.lex_core.specs.declared.token.Kind.TheVariants as kind
use Rattle.lex_core.specs.declared.token.Token.{Token}
use Rattle.lex_core.specs.Classes.{digits}
use Rattle.lex_core.specs.Forms.{has_form, bytes_of, IsTokenOf}
use Rattle.lex_core.specs.Lexing.{cut}
use Rattle.lex_core.specs.Values as values
use Rattle.lex_core.proofs.FormLemmas.{hex_literal, binary_literal}
use Rattle.lex_core.proofs.ValueLemmas.{spelled-small, pow-each}
use Rattle.term_tree.specs.Terms.{Text}
use Rattle.term_print.specs.Words.{Word, opens, closes, name, number, literal, other, number_word, literal_word, mark_word, word_of, lexemes}
use Rattle.term_read.specs.Spelling.{Words}
use Rattle.term_print.specs.PrintedLaws.{IsName}
use Rattle.term_read.proofs.TokenLemmas.{tokens_fit}
use Rattle.term_read.proofs.SpelledPartLemmas.{OfWords}

-- a name is one that the lexer takes, and a literal is a value
abbrev pub IsFormed : Word → Type 0
IsFormed opens = ⊤
IsFormed closes = ⊤
IsFormed (name x) = IsName x
IsFormed (number n) = ⊤
IsFormed (literal b) = IsBits b
IsFormed other = ⊤

-- ---- one token

number_formed : (o : Option ℕ) → IsFormed (number_word o)
number_formed None = tt
number_formed (Some n) = tt

mark_formed : (z : Text) → IsFormed (mark_word z)
mark_formed z = go (bytes_eq z (codes "(")) (bytes_eq z (codes ")"))
  where
    go : (a b : Bool) → IsFormed (if a then opens else (if b then closes else other))
    go true b = tt
    go false true = tt
    go false false = tt

-- the bits of a literal of so many bits a digit
literal_formed : (each : ℕ) (z : Text) → 0 < each → values.IsLiteralOf each z → IsFormed (literal_word (Some (values.bits_of each (drop 2 z))))
literal_formed each z some h =
    let small : values.spelled (2 ^ each) (drop 2 z) < (2 ^ each) ^ length (digits (drop 2 z)) = spelled-small (2 ^ each) (drop 2 z) h.body in
    record { positive = mul-pos some h.some; at_most = h.within; fits = omega (arith, small, pow-each (2 ^ each) each (length (digits (drop 2 z))) refl) }

word_formed : (k : Kind) (z : Text) → has_form k z ≡ true → IsFormed (word_of k z)
unfolding values.literal_of
word_formed kind.Name z h = h
word_formed kind.Number z h = number_formed (values.number_of kind.Number z)
word_formed kind.Hex z h = literal_formed 4 z (omega arith) (hex_literal kind.Hex z refl h)
word_formed kind.Binary z h = literal_formed 1 z (omega arith) (binary_literal kind.Binary z refl h)
word_formed kind.Text z h = tt
word_formed kind.Mark z h = mark_formed z

-- ---- all tokens

all_formed : (text : Text) (ts : List Token) → All (IsTokenOf text) ts → OfWords IsFormed (lexemes text ts)
all_formed text [] h = tt
all_formed text (t ∷ ts) h = (word_formed t.kind (bytes_of text t) (All-head (IsTokenOf text) t ts h).form, all_formed text ts (All-tail (IsTokenOf text) t ts h))

formed_behind : (i : ℕ) (ws : Words) → OfWords IsFormed ws → OfWords IsFormed (drop i ws)
formed_behind zero ws h = h
formed_behind (suc i) [] h = tt
formed_behind (suc i) (l ∷ ls) h = formed_behind i ls h.1

-- the words from a token on
pub tokens_formed : (text : Text) (ts : List Token) (from : ℕ) → cut text ≡ Ok ts → OfWords IsFormed (drop from (lexemes text ts))
tokens_formed text ts from e = formed_behind from (lexemes text ts) (all_formed text ts (tokens_fit text ts e))
