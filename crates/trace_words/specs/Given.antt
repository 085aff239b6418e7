-- What is assumed of a register, and how it is spelled.
use Rattle.std.specs.Prelude.{ℕ, List, [], ◌∷◌, ◌+◌, Bool, ◌==◌, ◌&&◌, not, take, drop, if◌then◌else◌, Option, Some, None, is_some, option_map, option_and_then}
use Rattle.std.specs.List.{position}
use Rattle.bv_bits.specs.declared.Bits.{Bits}
use Rattle.lex_core.specs.declared.token.Kind.{Kind}
use Rattle.lex_core.specs.declared.token.Kind.TheVariants as kind
use Rattle.lex_core.specs.declared.token.Token.{Token}
use Rattle.lex_core.specs.Classes.{Text}
use Rattle.lex_core.specs.Forms.{has_form}
use Rattle.lex_core.specs.Values.{literal_of}
use Rattle.sail_grammar.specs.Words.{as_bits, keywords, looked_up}
use Rattle.trace_words.specs.declared.givens.Given.{Given}

-- what is assumed of a register: its name, and its value with a width
pub record GivenSaid : Type 0 where
  pub name : Text
  pub bits : Bits

-- the same, as the code has it
abbrev pub given_said : Given → GivenSaid
given_said g = record { name = g.name.now; bits = g.bits }

-- a name token that no quoted word of the Sail language is
abbrev pub is_register_name : Text → Bool
is_register_name z = has_form kind.Name z && not (is_some (looked_up keywords z))

-- the bits of the one literal token that the text is
abbrev pub literal_alone : Text → Option Bits
literal_alone z =
    if has_form kind.Hex z then option_map as_bits (literal_of kind.Hex z)
    else (if has_form kind.Binary z then option_map as_bits (literal_of kind.Binary z) else None)

-- what a name and a literal assume
abbrev pub given_by : Text → Text → Option GivenSaid
given_by name value =
    if is_register_name name then option_map (λ b. record { name = name; bits = b }) (literal_alone value) else None

-- the byte `=`
abbrev pub is_equals : ℕ → Bool
is_equals b = b == 61

-- what a text assumes of a register: it is cut at its first `=`
abbrev pub given_of : Text → Option GivenSaid
given_of z = option_and_then (λ i. given_by (take i z) (drop (i + 1) z)) (position is_equals z)

-- the kind of the only token, where it begins at 0 and ends at the place
abbrev pub only : List Token → ℕ → Option Kind
only [] to = None
only (t ∷ []) to = if t.from == 0 && t.to == to then Some t.kind else None
only (t ∷ u ∷ more) to = None
