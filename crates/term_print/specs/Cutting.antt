-- Bytes that are cut into tokens with certain words, as a whole text or inside one.
use Rattle.std.specs.Prelude.{◌≡◌, ⊤, ◌+◌, ◌++◌, true, List, [], ◌∷◌, length, map, Ok}
use Rattle.lex_core.specs.declared.token.Token.{Token}
use Rattle.lex_core.specs.Lexing.{cut, cut_at, with_all}
use Rattle.lex_core.specs.Spelling.{ends_token}
use Rattle.term_tree.specs.Terms.{Text}
use Rattle.term_print.specs.Words.{Word, Lexeme, lexemes}

-- the words of tokens of a text
abbrev pub words_of : Text → List Token → List Word
words_of text ts = map (λ (l : Lexeme). l.word) (lexemes text ts)

-- a text is cut into tokens with these words
abbrev pub IsCutInto : Text → List Word → Type 0
IsCutInto text ws = (ts : List Token) × (cut text ≡ Ok ts) × (words_of text ts ≡ ws)

-- what stands behind a token: nothing, or first a byte that ends it
abbrev pub Ends : Text → Type 0
Ends [] = ⊤
Ends (b ∷ z) = ends_token b ≡ true

-- bytes between others are cut into tokens with these words
pub record IsCutBetween (front w behind : Text) (ws : List Word) : Type 0 where
  pub tokens : List Token
  pub cuts : cut_at (length front) (w ++ behind) ≡ with_all tokens (cut_at (length front + length w) behind)
  pub words : words_of (front ++ (w ++ behind)) tokens ≡ ws

-- so they are wherever they stand in front of what ends a token
abbrev pub IsCutAs : Text → List Word → Type 0
IsCutAs w ws = (front behind : Text) → Ends behind → IsCutBetween front w behind ws
