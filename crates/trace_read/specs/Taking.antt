-- What is left of a text to be read, and what is taken from its front.
use Rattle.std.specs.Prelude.{ℕ, Bool, true, false, [], ◌∷◌, Result, Ok, Err, nat_eq}
use Rattle.term_tree.specs.Terms.{Tree, width_of}
use Rattle.term_print.specs.Words.{Lexeme}
use Rattle.term_words.specs.Scopes.{Scope}
use Rattle.term_read.specs.declared.reading.TermReadFault.{TermReadFault}
use Rattle.term_read.specs.declared.reading.TermReadFault.TheVariants as term_fault
use Rattle.term_read.specs.Reading.{Outcome, run, wanted}
use Rattle.term_read.specs.Spelling.{Words}
use Rattle.trace_read.specs.declared.fault.TraceFault.{TraceFault}
use Rattle.trace_read.specs.declared.fault.TraceFault.TheVariants as fault

-- the words that are left, and the place where the text ends
pub record Left : Type 0 where
  pub words : Words
  pub end : ℕ

-- a value, or the first fault
abbrev pub Answer : Type 0 → Type 0
Answer A = Result A TraceFault

-- what is read and what is left behind it, or the first fault
abbrev pub Reading : Type 0 → Type 0
Reading A = Answer (A × Left)

infixl 10 ◌>>=◌
-- what is read, and then what goes on from it
abbrev pub ◌>>=◌ : {A B : Type 0} → Answer A → (A → Answer B) → Answer B
Ok a >>= f = f a
Err e >>= f = Err e

-- the place of the next word, or the end
abbrev pub place_of : Words → ℕ → ℕ
place_of [] end = end
place_of (x ∷ xs) end = x.at

abbrev pub place : Left → ℕ
place left = place_of left.words left.end

-- the first of these words, in a text that ends there
abbrev pub first_of : Words → ℕ → Reading Lexeme
first_of [] end = Err (fault.TraceForm end)
first_of (x ∷ xs) end = Ok (x, record { words = xs; end = end })

-- the next word
unfoldable pub first : Left → Reading Lexeme
first left = first_of left.words left.end

-- the next word, as what it stands for
unfoldable pub one : {A : Type 0} → (Lexeme → Answer A) → Left → Reading A
one f left = do
  x ← first left
  v ← f x.0
  Ok (v, x.1)

-- ---- terms

-- a fault of a term as one of a trace
abbrev pub of_term : TermReadFault → TraceFault
of_term (term_fault.Form at) = fault.TraceForm at
of_term (term_fault.Unbound at) = fault.Unbound at
of_term (term_fault.WidthDiffers at) = fault.WidthDiffers at
of_term (term_fault.Term f) = fault.Term f

-- what reading a term gives, in a text that ends there
abbrev pub term_read : ℕ → Outcome Tree → Reading Tree
term_read end (Ok (t, rest)) = Ok (t, record { words = rest; end = end })
term_read end (Err f) = Err (of_term f)

-- a term over these variables
unfoldable pub term : Scope → Left → Reading Tree
term scope left = term_read left.end (run scope left.end [] wanted left.words)

-- what is read, if the test passes; else a width differs at the place
abbrev pub if_fits : {A : Type 0} → Bool → ℕ → A → Answer A
if_fits true at it = Ok it
if_fits false at it = Err (fault.WidthDiffers at)

-- a term of a width; another width is a fault at its first word
unfoldable pub term_of : Scope → ℕ → Left → Reading Tree
term_of scope width left = do
  found ← term scope left
  if_fits (nat_eq (width_of found.0) width) (place left) found
