-- The words of a command: how they are parsed, and what they say.
use Rattle.std.specs.Prelude.{◌==◌, Bool, codes, false, List, [], ◌∷◌, map, Option, Some, None, String, if◌then◌else◌, option_map}
use Rattle.std.specs.Option.{option_or}
use Rattle.std.specs.Str.{bytes_eq}
use Rattle.std.specs.String.{string_bytes}
use Rattle.std.specs.declared.alloc.Global.{Global}
use Rattle.std.specs.List.{list_any}
use Rattle.lex_core.specs.Classes.{Text}
use Rattle.report_text.specs.Names.{Row, row_named}
use Rattle.trace_words.specs.Trace.{TraceSaid, trace_of, trace_said}
use Rattle.command_words.specs.declared.commands.CommandGiven.{CommandGiven}
use Rattle.command_words.specs.declared.commands.CommandGiven.TheVariants as given

-- ---- the words

-- the words' bytes
abbrev pub words_of : List (String Global) → List Text
words_of words = map string_bytes words

-- a word that begins with `-`
abbrev pub is_dashed : Text → Bool
is_dashed [] = false
is_dashed (b ∷ word) = b == 45

-- the words with `--` behind the first, so that a name may be any word
abbrev pub marked : List Text → List Text
marked [] = []
marked (x ∷ rest) = x ∷ codes "--" ∷ rest

-- the words that are parsed: none, where one begins with `-`
abbrev pub spelled : List Text → List Text
spelled words = if list_any is_dashed words then [] else marked words

-- ---- what they say

-- the names behind the word `check`, where there are three
abbrev pub names_behind : List Text → Option Row
names_behind (command ∷ sail ∷ image ∷ proof ∷ []) =
    if bytes_eq command (codes "check") then Some (record { sail = sail; image = image; proof = proof }) else None
names_behind words = None

-- the words are `check SAIL IMAGE PROOF`, and none begins with `-`
abbrev pub row_of : List Text → Option Row
row_of words = if list_any is_dashed words then None else names_behind words

-- what stands behind the word `trace`
abbrev pub trace_behind : List Text → Option TraceSaid
trace_behind [] = None
trace_behind (command ∷ rest) = if bytes_eq command (codes "trace") then trace_of rest else None

-- a command: a check of the row's files, or a trace
pub data CommandSaid : Type 0 where
  check : Row → CommandSaid
  trace : TraceSaid → CommandSaid

-- the words are `check SAIL IMAGE PROOF`, or `trace SAIL OPCODE` and then `REG=LIT` any number of times; none begins with `-`
abbrev pub command_of : List Text → Option CommandSaid
command_of words =
    if list_any is_dashed words then None else option_or (option_map check (names_behind words)) (option_map trace (trace_behind words))

-- the command, as the code has it
abbrev pub command_said : CommandGiven → CommandSaid
command_said (given.Check names) = check (row_named names)
command_said (given.Trace words) = trace (trace_said words)

-- the row of a check
abbrev pub row_said : Option CommandSaid → Option Row
row_said (Some (check row)) = Some row
row_said (Some (trace words)) = None
row_said None = None
