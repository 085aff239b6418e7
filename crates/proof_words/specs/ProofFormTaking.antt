-- What is taken from the front of the lexemes of a text.
use Rattle.std.specs.Prelude.{◌+◌, List, [], ◌∷◌, take, drop, Option, Some, None}
use Rattle.std.specs.List.{position_from}
use Rattle.lex_core.specs.declared.token.Kind.{Kind}
use Rattle.lex_core.specs.Classes.{Text}
use Rattle.read_rules.specs.Binding.{◌>>=◌}
use Rattle.proof_words.specs.ProofFormWords.{Lexeme, the_name, the_mark, is_close}

-- ---- rules: each takes what it reads from the front of the lexemes, and leaves the others; none where its form isn't there

-- what a rule reads, and the lexemes that it leaves
abbrev pub Reading : Type 0 → Type 0
Reading A = Option (A × List Lexeme)

-- the first lexeme
abbrev pub first : List Lexeme → Reading Lexeme
first [] = None
first (x ∷ xs) = Some (x, xs)

-- one lexeme, as what it stands for
unfoldable pub one : {A : Type 0} → (Kind → Text → Option A) → List Lexeme → Reading A
one f xs = do
  x ← first xs
  v ← f x.0.kind x.0.bytes
  Some (v, x.1)

-- one lexeme that is passed over
unfoldable pub over : {A : Type 0} → (Kind → Text → Option A) → List Lexeme → Option (List Lexeme)
over f xs = do
  found ← one f xs
  Some found.1

-- the name of these bytes
abbrev pub word : Text → List Lexeme → Option (List Lexeme)
word z xs = over (the_name z) xs

-- the mark of these bytes
abbrev pub mark : Text → List Lexeme → Option (List Lexeme)
mark z xs = over (the_mark z) xs

-- the lexemes before the first `}`, and those behind it
unfoldable pub up_to_close : List Lexeme → Reading (List Lexeme)
up_to_close xs = do
  place ← position_from is_close 0 xs
  Some (take place xs, drop (place + 1) xs)
