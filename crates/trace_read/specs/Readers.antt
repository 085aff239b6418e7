-- The code's values as those of the definitions, and what its readers give.
use Rattle.std.specs.Prelude.{◌≡◌, ◌≤◌, ◌<◌, ⊤, ℕ, suc, Bool, true, false, List, [], ◌∷◌, length, drop, map, Result, Ok, Err}
use Rattle.lex_core.specs.Lexing as lexing
use Rattle.lex_core.specs.Want.{Gives}
use Rattle.term_tree.specs.declared.term.TermFault.TheVariants as limit
use Rattle.term_tree.specs.declared.term.VarDecl.{VarDecl}
use Rattle.term_print.specs.Words.{Lexeme, lexemes}
use Rattle.term_words.specs.WordView.{word_view}
use Rattle.term_read.specs.ReadingView.{AreWidths}
use Rattle.trace_plain.specs.Trace.{Event, read_reg, read_mem}
use Rattle.trace_plain.specs.Rules.{var_name}
use Rattle.trace_plain.specs.View.{event_of}
use Rattle.trace_read.specs.declared.fault.TraceFault.{TraceFault}
use Rattle.trace_read.specs.declared.fault.TraceFault.TheVariants as fault
use Rattle.trace_read.specs.declared.lines.Line as code_line
use Rattle.trace_read.specs.declared.lines.Line.TheVariants as own_line
use Rattle.trace_read.specs.declared.rest.Placed.{Placed}
use Rattle.trace_read.specs.declared.rest.Rest.{Rest}
use Rattle.trace_read.specs.declared.reading.TheConstants.{MOST}
use Rattle.trace_read.specs.Lines.{Line, event, done, fail, cases}
use Rattle.trace_read.specs.Taking.{Left, Reading}
use Rattle.trace_read.specs.Words.{is_byte_count}

-- whether a fault tells want of memory
abbrev pub is_want : TraceFault → Bool
is_want (fault.Lex f) = lexing.is_want f
is_want (fault.TraceForm at) = false
is_want (fault.Unbound at) = false
is_want (fault.WidthDiffers at) = false
is_want (fault.Term limit.TooManyTerms) = false
is_want (fault.Term limit.TermTooHigh) = false
is_want (fault.Term limit.NoMemory) = true
is_want fault.NoMemory = true

-- what is left of the code's text
abbrev pub left : Rest → Left
left r = record { words = drop r.next (lexemes r.text.now r.tokens.now); end = length r.text.now }

-- a word at its place
abbrev pub lexeme_of : Placed → Lexeme
lexeme_of x = record { word = word_view x.word; at = x.at }

-- what a reader gave, as the view shows it, and what it left are what the rule reads, unless memory ran out
abbrev pub Reads : {T A : Type 0} → (T → A) → Reading A → Result (T × Rest) TraceFault → Type 0
Reads view wanted answer = Gives is_want (λ x. (view x.0, left x.1)) wanted answer

-- a line
abbrev pub line_of : code_line.Line → Line
line_of (own_line.Event e) = event (event_of e)
line_of own_line.Done = done
line_of (own_line.Fail kind) = fail kind
line_of (own_line.Cases k) = cases k

-- an event of one of so many registers, and of a number of bytes that an access may have
abbrev pub IsFineEvent : ℕ → Event → Type 0
IsFineEvent registers (read_reg r x) = r < registers
IsFineEvent registers (read_mem x at n) = is_byte_count n ≡ true
IsFineEvent registers e = ⊤

-- a line of such an event, or at least one child
abbrev pub IsFineLine : ℕ → Line → Type 0
IsFineLine registers (event e) = IsFineEvent registers e
IsFineLine registers done = ⊤
IsFineLine registers (fail kind) = ⊤
IsFineLine registers (cases k) = 0 < k

-- ---- variables of a path

-- the names of variables are `v` and their numbers, from this number on
abbrev pub AreNumbered : ℕ → List VarDecl → Type 0
AreNumbered n [] = ⊤
AreNumbered n (d ∷ ds) = (d.name ≡ var_name n) × AreNumbered (suc n) ds

-- the variables of a path: `v0` first, of widths from 1 to 128, and no more than there may be events
pub record IsPath (scope : List VarDecl) : Type 0 where
  pub names : AreNumbered 0 scope
  pub widths : AreWidths scope
  pub few : length scope ≤ MOST
