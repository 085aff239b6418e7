-- What a word stands for where something certain is wanted, or its fault.
use Rattle.std.specs.Prelude.{ℕ, zero, suc, Bool, true, false, ◌||◌, List, Option, Some, None, Ok, Err, bytes_eq, nat_eq, if◌then◌else◌}
use Rattle.std.specs.List.{position_from}
use Rattle.bv_bits.specs.declared.Bits.{Bits}
use Rattle.lex_core.specs.declared.name.RegDecl.{RegDecl}
use Rattle.term_tree.specs.Terms.{Text}
use Rattle.term_print.specs.Words.{Word, name, number, literal, Lexeme}
use Rattle.trace_plain.specs.declared.trace.FailKind.{FailKind}
use Rattle.trace_plain.specs.Rules.{var_name}
use Rattle.trace_read.specs.declared.fault.TraceFault.TheVariants as fault
use Rattle.trace_read.specs.declared.word_tables.Head.{Head}
use Rattle.trace_read.specs.Taking.{Answer, ◌>>=◌, if_fits}
use Rattle.trace_read.specs.WordTables.{head_of, failure_of}

-- what stands for a word; a word for which nothing stands is no trace's
abbrev pub known : {A : Type 0} → Option A → ℕ → Answer A
known None at = Err (fault.TraceForm at)
known (Some it) at = Ok it

-- a name
abbrev pub name_at : Word → ℕ → Answer Text
name_at (name x) at = Ok x
name_at w at = Err (fault.TraceForm at)

-- a number
abbrev pub number_at : Word → ℕ → Answer ℕ
number_at (number n) at = Ok n
number_at w at = Err (fault.TraceForm at)

-- a literal
abbrev pub literal_at : Word → ℕ → Answer Bits
literal_at (literal b) at = Ok b
literal_at w at = Err (fault.TraceForm at)

-- the event or end that begins
unfoldable pub head : Lexeme → Answer Head
head x = do
  own ← name_at x.word x.at
  known (head_of own) x.at

-- a failure
unfoldable pub failure : Lexeme → Answer FailKind
failure x = do
  own ← name_at x.word x.at
  known (failure_of own) x.at

-- the number of the first register of a name
unfoldable pub register_number : List RegDecl → Text → Option ℕ
register_number registers x = position_from (λ (d : RegDecl). bytes_eq d.name x) 0 registers

-- a register that is declared
abbrev pub declared : Option ℕ → ℕ → Answer ℕ
declared None at = Err (fault.Unbound at)
declared (Some r) at = Ok r

-- a register, by its name
unfoldable pub register : List RegDecl → Lexeme → Answer ℕ
register registers x = do
  own ← name_at x.word x.at
  declared (register_number registers own) x.at

-- the variable of this number
unfoldable pub variable : ℕ → Lexeme → Answer ℕ
variable n x = do
  own ← name_at x.word x.at
  if bytes_eq own (var_name n) then Ok n else Err (fault.TraceForm x.at)

-- whether an access may have so many bytes
abbrev pub is_byte_count : ℕ → Bool
is_byte_count n = nat_eq n 1 || nat_eq n 2 || nat_eq n 4 || nat_eq n 8 || nat_eq n 16

-- how many bytes an access has
unfoldable pub byte_count : Lexeme → Answer ℕ
byte_count x = do
  n ← number_at x.word x.at
  if is_byte_count n then Ok n else Err (fault.TraceForm x.at)

-- how many children there are, at least one
unfoldable pub child_count : Lexeme → Answer ℕ
child_count x = do
  n ← number_at x.word x.at
  if nat_eq n 0 then Err (fault.TraceForm x.at) else Ok n

-- a literal of a width
unfoldable pub value : ℕ → Lexeme → Answer Bits
value width x = do
  b ← literal_at x.word x.at
  if_fits (nat_eq b.width width) x.at b
