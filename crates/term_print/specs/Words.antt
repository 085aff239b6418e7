-- The tokens of a text as words of terms.
use Rattle.std.specs.Prelude.{ℕ, if◌then◌else◌, List, map, Option, Some, None, bytes_eq, codes}
use Rattle.bv_bits.specs.declared.Bits.{Bits}
use Rattle.lex_core.specs.declared.token.Kind.{Kind}
use Rattle.lex_core.specs.declared.token.Kind.TheVariants as kind
use Rattle.lex_core.specs.declared.token.Token.{Token}
use Rattle.lex_core.specs.declared.token.Literal.{Literal}
use Rattle.lex_core.specs.Forms.{bytes_of}
use Rattle.lex_core.specs.Values as values
use Rattle.term_tree.specs.Terms.{Text}

-- ---- words

-- what a token is in a term
pub data Word : Type 0 where
  -- `(`
  opens : Word
  -- `)`
  closes : Word
  -- a name, as its bytes
  name : (x : Text) → Word
  -- a number in decimal digits
  number : (n : ℕ) → Word
  -- a hex or binary literal
  literal : (b : Bits) → Word
  -- anything else
  other : Word

-- the bits of a literal
abbrev pub literal_word : Option Literal → Word
literal_word None = other
literal_word (Some b) = literal (record { width = b.width; value = b.value })

-- a number
abbrev pub number_word : Option ℕ → Word
number_word None = other
number_word (Some n) = number n

-- a mark
abbrev pub mark_word : Text → Word
mark_word z = if bytes_eq z (codes "(") then opens else (if bytes_eq z (codes ")") then closes else other)

-- a token of a kind with these bytes
abbrev pub word_of : Kind → Text → Word
word_of kind.Name z = name z
word_of kind.Number z = number_word (values.number_of kind.Number z)
word_of kind.Hex z = literal_word (values.literal_of kind.Hex z)
word_of kind.Binary z = literal_word (values.literal_of kind.Binary z)
word_of kind.Text z = other
word_of kind.Mark z = mark_word z

-- a word, and the place in the text where it begins
pub record Lexeme : Type 0 where
  pub word : Word
  pub at : ℕ

-- a token of a text
abbrev pub lexeme : Text → Token → Lexeme
lexeme text t = record { word = word_of t.kind (bytes_of text t); at = t.from }

-- tokens in a row
abbrev pub lexemes : Text → List Token → List Lexeme
lexemes text ts = map (lexeme text) ts
