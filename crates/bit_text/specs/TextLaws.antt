-- The texts of literals and numbers are tokens that stand for them.
use Rattle.std.specs.Prelude.{◌≡◌, ◌<◌, ℕ, ◌^◌, ◌%◌, ◌==◌, true, if◌then◌else◌, Some}
use Rattle.std.specs.Fmt.{decimal}
use Rattle.std.specs.Str.{IsAscii}
use Rattle.bv_bits.specs.declared.Bits.{Bits}
use Rattle.bv_bits.specs.Bits.{IsBits}
use Rattle.lex_core.specs.declared.token.Kind.{Kind}
use Rattle.lex_core.specs.declared.token.Kind.TheVariants as kind
use Rattle.lex_core.specs.Forms.{has_form}
use Rattle.lex_core.specs.Values.{literal_of, number_of}
use Rattle.bit_text.specs.Texts.{literal_text}

-- the kind of the token that a literal's text is
abbrev pub literal_kind : Bits → Kind
literal_kind b = if b.width % 4 == 0 then kind.Hex else kind.Binary

-- ---- laws

-- a literal's text has the form of a token of its kind
abbrev pub LiteralHasForm : Type 0
LiteralHasForm = (b : Bits) → IsBits b → has_form (literal_kind b) (literal_text b) ≡ true

-- as such a token it stands for the literal
abbrev pub LiteralStands : Type 0
LiteralStands = (b : Bits) → IsBits b → literal_of (literal_kind b) (literal_text b) ≡ Some (record { width = b.width; value = b.value })

-- it is ASCII
abbrev pub LiteralIsAscii : Type 0
LiteralIsAscii = (b : Bits) → IsAscii (literal_text b)

-- a number of at most nine digits has the form of a number
abbrev pub NumberHasForm : Type 0
NumberHasForm = (n : ℕ) → n < 10 ^ 9 → has_form kind.Number (decimal n) ≡ true

-- and stands for it
abbrev pub NumberStands : Type 0
NumberStands = (n : ℕ) → n < 10 ^ 9 → number_of kind.Number (decimal n) ≡ Some n
