-- How many definitions of each kind there are, up to the limit.
use Rattle.std.specs.Prelude.{◌≡◌, ℕ, ◌+◌, Bool, if◌then◌else◌, nat_lt, List, length, map, Option, Some, None}
use Rattle.std.specs.List.{filter}
use Rattle.sail_syntax.specs.Program.{Definition, order, register, enumeration, signature, function}
use Rattle.sail_syntax.specs.View.{definition_of}
use Rattle.sail_syntax.specs.declared.definitions.Def.{Def}
use Rattle.sail_grammar.specs.Definitions.{most_of_a_kind, is_register, is_enum, is_a_function}
use Rattle.sail_counts.specs.declared.definitions.Counted.{Counted}
use Rattle.sail_counts.specs.declared.definitions.Counted.TheVariants as counted

-- which definitions are counted
abbrev pub kind_of : Counted → Definition → Bool
kind_of counted.Register d = is_register d
kind_of counted.Enum d = is_enum d
kind_of counted.Function d = is_a_function d

-- as which kind a definition is counted
abbrev pub counted_of : Definition → Option Counted
counted_of order = None
counted_of (register x width at) = Some counted.Register
counted_of (enumeration x members at) = Some counted.Enum
counted_of (signature x args result at) = None
counted_of (function f) = Some counted.Function

-- a number up to the limit
abbrev pub capped : ℕ → ℕ
capped n = if nat_lt n most_of_a_kind then n else most_of_a_kind

-- one more, up to the limit
abbrev pub one_more : ℕ → ℕ
one_more n = if nat_lt n most_of_a_kind then n + 1 else n

-- how many of a kind there are, up to the limit
abbrev pub of_kind : Counted → List Def → ℕ
of_kind kind ds = capped (length (filter (kind_of kind) (map definition_of ds)))

-- the counts are right
pub record HasCounts (ds : List Def) (registers enums functions : ℕ) : Type 0 where
  pub registers_are : registers ≡ of_kind counted.Register ds
  pub enums_are : enums ≡ of_kind counted.Enum ds
  pub functions_are : functions ≡ of_kind counted.Function ds
