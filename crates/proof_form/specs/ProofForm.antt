-- How a text is read as a proof file of the first form.
use Rattle.std.specs.Prelude.{ℕ, ◌&&◌, not, List, [], ◌∷◌, length, All, is_some, Option, Some, None, Ok, Err, if◌then◌else◌, bytes_eq, codes, nat_eq}
use Rattle.bv_bits.specs.Bits.{IsBits}
use Rattle.lex_core.specs.declared.token.Token.{Token}
use Rattle.lex_core.specs.Classes.{Text}
use Rattle.lex_core.specs.Forms.{bytes_of}
use Rattle.lex_core.specs.Lexing.{cut, Outcome}
use Rattle.proof_form.specs.declared.form.NamedValue.{NamedValue}
use Rattle.proof_form.specs.declared.form.NamedProof.{NamedProof}
use Rattle.proof_form.specs.declared.form.ReadProof.{ReadProof}
use Rattle.proof_form.specs.declared.form.ReadProof.TheVariants as read
use Rattle.read_rules.specs.Binding.{◌>>=◌}
use Rattle.proof_words.specs.ProofFormWords.{Lexeme, lexemes, the_name, the_version, name_of, free_name_of, literal_of, address_of, full_address_of}
use Rattle.proof_words.specs.ProofFormTaking.{Reading, one, over, word, mark, up_to_close}

-- ---- the parts

-- two marks
unfoldable pub marks : Text → Text → List Lexeme → Option (List Lexeme)
marks y z xs = do
  next ← mark y xs
  mark z next

-- `reg NAME = LITERAL ;`
unfoldable pub item : List Lexeme → Reading NamedValue
item xs = do
  begun ← word (codes "reg") xs
  register ← one name_of begun
  equals ← mark (codes "=") register.1
  value ← one literal_of equals
  end ← mark (codes ";") value.1
  Some (record { register = register.0; value = value.0 }, end)

-- items and nothing else: each takes five lexemes
unfoldable pub items : List Lexeme → Option (List NamedValue)
items [] = Some []
items (r ∷ n ∷ e ∷ l ∷ s ∷ xs) = do
  first ← item (r ∷ n ∷ e ∷ l ∷ s ∷ [])
  others ← items xs
  Some (first.0 ∷ others)
items (r ∷ []) = None
items (r ∷ n ∷ []) = None
items (r ∷ n ∷ e ∷ []) = None
items (r ∷ n ∷ e ∷ l ∷ []) = None

-- items in braces
unfoldable pub braces : List Lexeme → Reading (List NamedValue)
braces xs = do
  inside ← mark (codes "{") xs
  parts ← up_to_close inside
  values ← items parts.0
  Some (values, parts.1)

-- `islaris_proof 1 spec NAME {`
unfoldable pub head : List Lexeme → Reading Text
head xs = do
  begun ← word (codes "islaris_proof") xs
  spec ← over the_version begun
  own ← word (codes "spec") spec
  found ← one free_name_of own
  inside ← mark (codes "{") found.1
  Some (found.0, inside)

-- `code LO HI ;`
unfoldable pub code : List Lexeme → Reading (ℕ × ℕ)
code xs = do
  begun ← word (codes "code") xs
  lo ← one address_of begun
  hi ← one address_of lo.1
  end ← mark (codes ";") hi.1
  Some ((lo.0, hi.0), end)

-- an exit or a block: its name, its address, and the values of its registers
pub record Point : Type 0 where
  pub name : Text
  pub at : ℕ
  pub values : List NamedValue

-- `{ items } steps {`
unfoldable pub body : List Lexeme → Reading (List NamedValue)
body xs = do
  values ← braces xs
  steps ← word (codes "steps") values.1
  inside ← mark (codes "{") steps
  Some (values.0, inside)

-- `exit NAME at ADDRESS { items } steps { }`, where the address has all its digits
unfoldable pub exit : List Lexeme → Reading Point
exit xs = do
  begun ← word (codes "exit") xs
  own ← one free_name_of begun
  place ← word (codes "at") own.1
  at ← one full_address_of place
  values ← body at.1
  end ← mark (codes "}") values.1
  Some (record { name = own.0; at = at.0; values = values.0 }, end)

-- `block NAME at ADDRESS { items } steps {`
unfoldable pub block : List Lexeme → Reading Point
block xs = do
  begun ← word (codes "block") xs
  own ← one free_name_of begun
  place ← word (codes "at") own.1
  at ← one address_of place
  values ← body at.1
  Some (record { name = own.0; at = at.0; values = values.0 }, values.1)

-- `exit NAME ( ) ( ) ; } }` with this name
unfoldable pub tail : Text → List Lexeme → Option (List Lexeme)
tail z xs = do
  begun ← word (codes "exit") xs
  binds ← word z begun
  places ← marks (codes "(") (codes ")") binds
  end ← marks (codes "(") (codes ")") places
  step ← mark (codes ";") end
  marks (codes "}") (codes "}") step

-- ---- the form

-- the parts of a proof
abbrev pub proof_of : Text → ℕ × ℕ → Point → Point → NamedProof
proof_of spec range left entered = record {
  spec = spec;
  lo = range.0;
  hi = range.1;
  exit = left.name;
  exit_at = left.at;
  wanted = left.values;
  block = entered.name;
  entry_at = entered.at;
  entry = entered.values;
}

-- each value is a width and a number that fits it
abbrev pub AreBits : List NamedValue → Type 0
AreBits vs = All (λ v. IsBits v.value) vs

-- all lexemes are a proof, whose exit and block have two names
unfoldable pub whole : List Lexeme → Option NamedProof
whole xs = do
  spec ← head xs
  range ← code spec.1
  left ← exit range.1
  entered ← block left.1
  end ← tail left.0.name entered.1
  if nat_eq (length end) 0 && not (bytes_eq left.0.name entered.0.name) then Some (proof_of spec.0 range.0 left.0 entered.0) else None

-- where a text with these tokens shows that it is no proof file: at its length if it has no token, and at its first token if that isn't `islaris_proof`
abbrev pub no_proof : Text → List Token → Option ℕ
no_proof text [] = Some (length text)
no_proof text (t ∷ ts) = if is_some (the_name (codes "islaris_proof") t.kind (bytes_of text t)) then None else Some t.from

-- no proof file, or what the lexemes are
abbrev pub unless : Option ℕ → Option NamedProof → ReadProof
unless (Some at) p = read.NoProof at
unless None (Some p) = read.Read p
unless None None = read.Outside

-- what a text is that has these tokens
abbrev pub of_tokens : Text → List Token → ReadProof
of_tokens text ts = unless (no_proof text ts) (whole (lexemes text ts))

-- what a text is that is cut so
abbrev pub of_cutting : Text → Outcome → ReadProof
of_cutting text (Err f) = read.Outside
of_cutting text (Ok ts) = of_tokens text ts

-- what a text is as a proof file
unfoldable pub proof_form : Text → ReadProof
proof_form text = of_cutting text (cut text)

-- each value that is read is a width and a number that fits it
abbrev pub Fits : ReadProof → Type 0
Fits (read.NoProof at) = Unit {0}
Fits read.Outside = Unit {0}
Fits (read.Read p) = AreBits p.wanted × AreBits p.entry
