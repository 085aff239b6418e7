-- What is wrong with a function that a word is given to.
use Rattle.std.specs.Prelude.{ℕ, if◌then◌else◌, Option, Some, None}
use Rattle.sail_syntax.specs.Program.{Function}
use Rattle.type_rules.specs.Program.{is_of_word}

-- that it isn't there, or where it begins, if it doesn't take a word of so many bits or doesn't give unit
abbrev pub word_fault : ℕ → Option Function → Option (Option ℕ)
word_fault w None = Some None
word_fault w (Some f) = if is_of_word w f then None else Some (Some f.at)
