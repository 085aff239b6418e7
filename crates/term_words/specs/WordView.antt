-- The words of the code.
use Rattle.std.specs.Prelude.{⊤}
use Rattle.bv_bits.specs.Bits.{IsBits}
use Rattle.lex_core.specs.declared.token.Literal.{Literal}
use Rattle.term_words.specs.declared.words.Word as code
use Rattle.term_words.specs.declared.words.Word.TheVariants as own
use Rattle.term_print.specs.Words.{Word, closes, literal, name, number, opens, other}

-- the code's word
abbrev pub word_view : code.Word → Word
word_view own.Open = opens
word_view own.Close = closes
word_view (own.Name x) = name x.now
word_view (own.Number n) = number n
word_view (own.Literal b) = literal b
word_view own.Other = other

-- a literal is a value
abbrev pub IsFineWord : Word → Type 0
IsFineWord opens = ⊤
IsFineWord closes = ⊤
IsFineWord (name x) = ⊤
IsFineWord (number n) = ⊤
IsFineWord (literal b) = IsBits b
IsFineWord other = ⊤
