-- The tokens of a text as plain data, what each stands for, and the words of the first proof form.
use Rattle.std.specs.Prelude.{◌≡◌, ℕ, Bool, false, not, ◌&&◌, ◌==◌, nat_le, List, [], ◌∷◌, map, is_some, Option, Some, None, if◌then◌else◌, bytes_eq, codes}
use Rattle.std.specs.List.{list_any}
use Rattle.std.specs.Option.{option_map}
use Rattle.bv_bits.specs.declared.Bits.{Bits}
use Rattle.lex_core.specs.declared.token.Kind.{Kind}
use Rattle.lex_core.specs.declared.token.Kind.TheVariants as kind
use Rattle.lex_core.specs.declared.token.Token.{Token}
use Rattle.lex_core.specs.declared.token.Literal.{Literal}
use Rattle.lex_core.specs.Classes.{Text}
use Rattle.lex_core.specs.Forms.{bytes_of}
use Rattle.lex_core.specs.Values as values

-- a token without its place: its kind and its bytes
pub record Lexeme : Type 0 where
  pub kind : Kind
  pub bytes : Text

-- the lexeme that a token is in its text
abbrev pub lexeme : Text → Token → Lexeme
lexeme text t = record { kind = t.kind; bytes = bytes_of text t }

-- the lexemes of tokens in a row
abbrev pub lexemes : Text → List Token → List Lexeme
lexemes text ts = map (lexeme text) ts

-- ---- what a token of a kind with these bytes stands for

-- the value where the test holds of it
abbrev pub kept : {A : Type 0} → (A → Bool) → Option A → Option A
kept p None = None
kept p (Some x) = if p x then Some x else None

-- a name: its bytes
abbrev pub name_of : Kind → Text → Option Text
name_of kind.Name z = Some z
name_of kind.Number z = None
name_of kind.Hex z = None
name_of kind.Binary z = None
name_of kind.Text z = None
name_of kind.Mark z = None

-- a mark: its bytes
abbrev pub mark_of : Kind → Text → Option Text
mark_of kind.Name z = None
mark_of kind.Number z = None
mark_of kind.Hex z = None
mark_of kind.Binary z = None
mark_of kind.Text z = None
mark_of kind.Mark z = Some z

-- a number in decimal digits
abbrev pub number_of : Kind → Text → Option ℕ
number_of k z = values.number_of k z

-- a hex or binary literal: four bits a hex digit, one a binary digit
abbrev pub literal_of : Kind → Text → Option Bits
literal_of k z = option_map (λ (b : Literal). record { width = b.width; value = b.value }) (values.literal_of k z)

-- a hex literal
abbrev pub hex_of : Kind → Text → Option Bits
hex_of kind.Name z = None
hex_of kind.Number z = None
hex_of kind.Hex z = literal_of kind.Hex z
hex_of kind.Binary z = None
hex_of kind.Text z = None
hex_of kind.Mark z = None

-- an address: a hex literal of at most 64 bits
abbrev pub address_of : Kind → Text → Option ℕ
address_of k z = option_map (λ (b : Bits). b.value) (kept (λ b. nat_le b.width 64) (hex_of k z))

-- an address in full: a hex literal of exactly 64 bits
abbrev pub full_address_of : Kind → Text → Option ℕ
full_address_of k z = option_map (λ (b : Bits). b.value) (kept (λ b. b.width == 64) (hex_of k z))

-- the name of these bytes
abbrev pub the_name : Text → Kind → Text → Option Text
the_name own k z = kept (λ x. bytes_eq x own) (name_of k z)

-- the mark of these bytes
abbrev pub the_mark : Text → Kind → Text → Option Text
the_mark own k z = kept (λ x. bytes_eq x own) (mark_of k z)

-- whether the lexeme is `}`
abbrev pub is_close : Lexeme → Bool
is_close x = is_some (the_mark (codes "}") x.kind x.bytes)

-- the version, 1
abbrev pub the_version : Kind → Text → Option ℕ
the_version k z = kept (λ n. n == 1) (number_of k z)

-- ---- which names are free to be chosen

-- the words that the grammar of proof files quotes, and `T`
unfoldable pub quoted : List Text
quoted = codes "islaris_proof" ∷ codes "device" ∷ codes "range" ∷ codes "states" ∷ codes "read" ∷ codes "write" ∷ codes "when" ∷ codes "to"
    ∷ codes "spec" ∷ codes "fix" ∷ codes "assume" ∷ codes "given" ∷ codes "code" ∷ codes "exit" ∷ codes "block" ∷ codes "exists"
    ∷ codes "array" ∷ codes "at" ∷ codes "fact" ∷ codes "reg" ∷ codes "mem" ∷ codes "arr" ∷ codes "dev" ∷ codes "steps"
    ∷ codes "use" ∷ codes "keep" ∷ codes "prove" ∷ codes "dead" ∷ codes "drop" ∷ codes "trace" ∷ codes "sample" ∷ codes "answers"
    ∷ codes "T" ∷ []

-- whether the first byte is `_`
abbrev pub begins_with_underscore : Text → Bool
begins_with_underscore [] = false
begins_with_underscore (b ∷ z) = b == 95

-- a name that a specification, an exit or a block may have: none that is quoted, and none that begins with `_`
unfoldable pub is_free : Text → Bool
is_free z = not (begins_with_underscore z) && not (list_any (bytes_eq z) quoted)

-- such a name
abbrev pub free_name_of : Kind → Text → Option Text
free_name_of k z = kept is_free (name_of k z)

-- ---- words

-- what a token has to be
pub data Word : Type 0 where
  -- the name of these bytes
  name : Text → Word
  -- the mark of these bytes
  mark : Text → Word
  -- this number
  number : ℕ → Word
  -- this address
  address : ℕ → Word
  -- this address in full
  full_address : ℕ → Word
  -- a literal of these bits
  literal : Bits → Word

-- the lexeme is the word
abbrev pub Is : Word → Lexeme → Type 0
Is (name z) x = name_of x.kind x.bytes ≡ Some z
Is (mark z) x = mark_of x.kind x.bytes ≡ Some z
Is (number n) x = number_of x.kind x.bytes ≡ Some n
Is (address n) x = address_of x.kind x.bytes ≡ Some n
Is (full_address n) x = full_address_of x.kind x.bytes ≡ Some n
Is (literal b) x = literal_of x.kind x.bytes ≡ Some b

-- lexeme by lexeme the words
abbrev pub Spell : List Word → List Lexeme → Type 0
Spell [] [] = Unit {0}
Spell (w ∷ ws) (x ∷ xs) = Is w x × Spell ws xs
Spell [] (x ∷ xs) = ⊥
Spell (w ∷ ws) [] = ⊥
