-- Whether the words of a trace fit a program.
use Rattle.std.specs.Prelude.{◌≡◌, ◌≢◌, ◌⊎◌, ℕ, ◌%◌, ◌==◌, Bool, true, false, ◌&&◌, ◌||◌, not, List, [], ◌∷◌, All, AllPairs, Contains, codes, bytes_eq, nat_eq, is_some, if◌then◌else◌}
use Rattle.std.specs.List.{list_any}
use Rattle.lex_core.specs.declared.name.RegDecl.{RegDecl}
use Rattle.sail_syntax.specs.Program.{Definition, registers_of}
use Rattle.state_core.specs.declared.word.Word.{Word}
use Rattle.trace_words.specs.Given.{GivenSaid}
use Rattle.trace_words.specs.Trace.{TraceSaid}
use Rattle.type_rules.specs.Program.{instr16_of}

-- ---- in the words of the machine

-- a program with words of two bytes goes on behind the first two bytes where their lowest two bits are 11
abbrev pub GoesOn : Word → Type 0
GoesOn w = w.bits % 4 ≡ 3

-- a fetch gives such a word: without words of two bytes each one of four; with them one of two bytes that doesn't go on, or one of four that does
abbrev pub IsFetched : Bool → Word → Type 0
IsFetched false w = w.bytes ≡ 4
IsFetched true w = ((w.bytes ≡ 2) × (¬ GoesOn w)) ⊎ ((w.bytes ≡ 4) × GoesOn w)

-- the register of which something is assumed, as it has to be declared
abbrev pub wanted : GivenSaid → RegDecl
wanted g = record { name = g.name; width = g.bits.width }

-- the words fit a program
pub record Fits (defs : List Definition) (said : TraceSaid) : Type 0 where
  -- a fetch of the program gives the word; it has words of two bytes where it has a function `instr16`
  pub fetched : IsFetched (is_some (instr16_of defs)) said.opcode
  -- each register that is named is declared, with the width of its literal
  pub declared : All (λ g. Contains (registers_of defs) (wanted g)) said.given
  -- and isn't PC
  pub no_pc : All (λ g. g.name ≢ codes "PC") said.given
  -- no two name one register
  pub once : AllPairs (λ g h. h.name ≢ g.name) said.given

-- ---- as a test

abbrev pub is_fetched : Bool → Word → Bool
is_fetched short w =
    let is_long = w.bits % 4 == 3 in
    if w.bytes == 2 then short && not is_long else (w.bytes == 4 && (not short || is_long))

-- the register is declared so
abbrev pub same_register : GivenSaid → RegDecl → Bool
same_register g r = bytes_eq r.name g.name && nat_eq r.width g.bits.width

abbrev pub is_declared : List RegDecl → GivenSaid → Bool
is_declared regs g = list_any (same_register g) regs

-- what is assumed of one register fits, and what stands behind it
abbrev pub given_fits : List RegDecl → GivenSaid → List GivenSaid → Bool
given_fits regs g rest =
    not (bytes_eq g.name (codes "PC")) && is_declared regs g && not (list_any (λ h. bytes_eq h.name g.name) rest)

abbrev pub givens_fit : List RegDecl → List GivenSaid → Bool
givens_fit regs [] = true
givens_fit regs (g ∷ rest) = given_fits regs g rest && givens_fit regs rest

-- the words fit a program, as a test
abbrev pub words_fit : List Definition → TraceSaid → Bool
words_fit defs said = is_fetched (is_some (instr16_of defs)) said.opcode && givens_fit (registers_of defs) said.given
