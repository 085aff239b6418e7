-- The spelling of an instruction word.
use Rattle.std.specs.Prelude.{◌≡◌, ℕ, ◌==◌, ◌&&◌, [], ◌∷◌, length, if◌then◌else◌, Option, Some, None, IsSome, true, option_map, option_and_then}
use Rattle.std.specs.Char.{is_ascii_hexdigit}
use Rattle.std.specs.List.{list_all}
use Rattle.std.specs.Str.Parse.{digits_value}
use Rattle.lex_core.specs.Classes.{Text}
use Rattle.state_core.specs.declared.word.Word.{Word}

-- what stands behind `0x`, where the text begins with it
abbrev pub behind_0x : Text → Option Text
behind_0x [] = None
behind_0x (a ∷ []) = None
behind_0x (a ∷ b ∷ z) = if a == 48 && b == 120 then Some z else None

-- how many bytes a word of so many hex digits has: four of eight digits, two of four
abbrev pub word_bytes : ℕ → Option ℕ
word_bytes n = if n == 8 then Some 4 else (if n == 4 then Some 2 else None)

-- the word that hex digits spell, the first of highest weight
abbrev pub word_of : Text → Option Word
word_of z = if list_all is_ascii_hexdigit z then option_map (λ n. record { bytes = n; bits = digits_value 16 z }) (word_bytes (length z)) else None

-- the word that a text spells: `0x`, and eight hex digits or four
abbrev pub opcode_of : Text → Option Word
opcode_of z = option_and_then word_of (behind_0x z)

-- `0x`, and hex digits that spell a word
pub record IsHexWord (z : Text) : Type 0 where
  pub digits : Text
  pub behind : behind_0x z ≡ Some digits
  pub hex : list_all is_ascii_hexdigit digits ≡ true
  pub sized : IsSome (word_bytes (length digits))
