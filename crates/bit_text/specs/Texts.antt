-- The texts of literals.
use Rattle.std.specs.Prelude.{ℕ, zero, suc, ◌+◌, ◌*◌, ◌/◌, ◌%◌, ◌^◌, ◌==◌, if◌then◌else◌, [], ◌∷◌, ◌++◌, nat_lt, codes}
use Rattle.bv_bits.specs.declared.Bits.{Bits}
use Rattle.lex_core.specs.Classes.{Text}

-- a digit: `0` to `9`, and `a` to `f` from 10 on
abbrev pub digit : ℕ → ℕ
digit d = if nat_lt d 10 then 48 + d else 87 + d

-- the last n digits of a number, that of highest weight first, where a digit stands for so many bits
abbrev pub last_digits : ℕ → ℕ → ℕ → Text
last_digits each zero x = []
last_digits each (suc n) x = digit (x / 2 ^ (each * n) % 2 ^ each) ∷ last_digits each n x

-- a literal with all its digits: hex digits where its width is a multiple of 4, else binary ones
unfoldable pub literal_text : Bits → Text
literal_text b =
    if b.width % 4 == 0 then codes "0x" ++ last_digits 4 (b.width / 4) b.value
    else codes "0b" ++ last_digits 1 b.width b.value
