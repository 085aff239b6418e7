-- A line of a trace: an event or an end.
use Rattle.std.specs.Prelude.{ℕ, ◌*◌, List, length, nat_eq, Ok}
use Rattle.lex_core.specs.declared.name.RegDecl.{RegDecl}
use Rattle.term_tree.specs.Terms.{width_of}
use Rattle.term_words.specs.Scopes.{Scope}
use Rattle.trace_plain.specs.declared.trace.FailKind.{FailKind}
use Rattle.trace_plain.specs.Trace.{Event, read_reg, write_reg, read_mem, write_mem, assume, need, assume_reg}
use Rattle.trace_read.specs.declared.word_tables.Head.{Head}
use Rattle.trace_read.specs.declared.word_tables.Head.TheVariants as head
use Rattle.trace_read.specs.Paths.{width_at}
use Rattle.trace_read.specs.Taking.{Left, Reading, ◌>>=◌, place, one, term, term_of, if_fits}
use Rattle.trace_read.specs.Words as words

-- a line
pub data Line : Type 0 where
  -- an event
  event : (e : Event) → Line
  -- the instruction is done
  done : Line
  -- it fails
  fail : (kind : FailKind) → Line
  -- it goes on as one of so many traces
  cases : (children : ℕ) → Line

-- ---- what stands behind the first word of a line, over these registers and variables

-- the next variable of a path
unfoldable pub next_variable : Scope → Left → Reading ℕ
next_variable scope left = one (words.variable (length scope)) left

-- a register, and the next variable
unfoldable pub read_reg_line : List RegDecl → Scope → Left → Reading Line
read_reg_line registers scope left = do
  r ← one (words.register registers) left
  x ← next_variable scope r.1
  Ok (event (read_reg r.0 x.0), x.1)

-- a register, and a term as wide
unfoldable pub write_reg_line : List RegDecl → Scope → Left → Reading Line
write_reg_line registers scope left = do
  r ← one (words.register registers) left
  t ← term_of scope (width_at registers r.0) r.1
  Ok (event (write_reg r.0 t.0), t.1)

-- the next variable, an address, and how many bytes
unfoldable pub read_mem_line : Scope → Left → Reading Line
read_mem_line scope left = do
  x ← next_variable scope left
  a ← term_of scope 64 x.1
  n ← one words.byte_count a.1
  Ok (event (read_mem x.0 a.0 n.0), n.1)

-- an address, a term, and how many bytes, as wide as the term; another width is a fault at the term's first word
unfoldable pub write_mem_line : Scope → Left → Reading Line
write_mem_line scope left = do
  a ← term_of scope 64 left
  t ← term scope a.1
  n ← one words.byte_count t.1
  if_fits (nat_eq (width_of t.0) (8 * n.0)) (place a.1) (event (write_mem a.0 t.0 n.0), n.1)

-- one bit
unfoldable pub assume_line : Scope → Left → Reading Line
assume_line scope left = do
  t ← term_of scope 1 left
  Ok (event (assume t.0), t.1)

unfoldable pub need_line : Scope → Left → Reading Line
need_line scope left = do
  t ← term_of scope 1 left
  Ok (event (need t.0), t.1)

-- a register, and a literal as wide
unfoldable pub assume_reg_line : List RegDecl → Left → Reading Line
assume_reg_line registers left = do
  r ← one (words.register registers) left
  b ← one (words.value (width_at registers r.0)) r.1
  Ok (event (assume_reg r.0 b.0), b.1)

-- why it fails
unfoldable pub fail_line : Left → Reading Line
fail_line left = do
  k ← one words.failure left
  Ok (fail k.0, k.1)

-- how many children there are
unfoldable pub cases_line : Left → Reading Line
cases_line left = do
  n ← one words.child_count left
  Ok (cases n.0, n.1)

-- what stands behind each first word
abbrev pub line_behind : List RegDecl → Scope → Head → Left → Reading Line
line_behind registers scope head.ReadReg left = read_reg_line registers scope left
line_behind registers scope head.WriteReg left = write_reg_line registers scope left
line_behind registers scope head.ReadMem left = read_mem_line scope left
line_behind registers scope head.WriteMem left = write_mem_line scope left
line_behind registers scope head.Assume left = assume_line scope left
line_behind registers scope head.Need left = need_line scope left
line_behind registers scope head.AssumeReg left = assume_reg_line registers left
line_behind registers scope head.Done left = Ok (done, left)
line_behind registers scope head.Fail left = fail_line left
line_behind registers scope head.Cases left = cases_line left

-- a line
unfoldable pub line : List RegDecl → Scope → Left → Reading Line
line registers scope left = do
  begun ← one words.head left
  line_behind registers scope begun.0 begun.1
