-- Texts that spell a program.
use Rattle.std.specs.Prelude.{◌≡◌, ◌≤◌, ℕ, List, ◌++◌, length, Ok}
use Rattle.lex_core.specs.declared.token.Token.{Token}
use Rattle.lex_core.specs.Lexing.{cut}
use Rattle.sail_syntax.specs.Tree.{Text}
use Rattle.sail_syntax.specs.Program.{Definition}
use Rattle.sail_grammar.specs.Words.{Words, words_of}
use Rattle.sail_grammar.specs.Definitions.{SpellsProgram, max_nesting, AreFew}

-- how many bytes a Sail text may have
abbrev pub most_bytes : ℕ
most_bytes = 1048576

-- the words, all of them, spell the program within the limits
pub record IsProgram (ws : Words) (ds : List Definition) : Type 0 where
  pub spelled : SpellsProgram max_nesting ws ds
  pub few : AreFew ds

-- some words behind these make them a program
pub record Continues (ws : Words) : Type 0 where
  pub more : Words
  pub defs : List Definition
  pub is : IsProgram (ws ++ more) defs

-- the text spells the program
pub record IsSpelling (text : Text) (ds : List Definition) : Type 0 where
  pub short : length text ≤ most_bytes
  pub tokens : List Token
  pub cut : cut text ≡ Ok tokens
  pub program : IsProgram (words_of text tokens) ds
