-- What the traces of opcodes are made of: they keep the rules of traces, and their terms are typed and hold no division.
use Rattle.std.specs.Prelude.{◌≡◌, ◌≢◌, ◌≤◌, ◌<◌, ◌^◌, ⊤, ℕ, List, [], ◌∷◌, length, Some}
use Rattle.bv_bits.specs.declared.Bits.{Bits}
use Rattle.bv_bits.specs.Bits.{IsBits}
use Rattle.lex_core.specs.declared.name.RegDecl.{RegDecl}
use Rattle.sail_syntax.specs.Tree.{Text}
use Rattle.sail_syntax.specs.Program.{Definition, registers_of}
use Rattle.term_tree.specs.Terms.{Tree, IsTyped, height, HIGHEST}
use Rattle.term_tree.specs.Divisions.{HasNoDivision}
use Rattle.type_rules.specs.IsTyped.{IsTypedProgram}
use Rattle.trace_plain.specs.Printable.{IsPrintable}
use Rattle.trace_plain.specs.Rules.{var_name, register_width, IsByTheRules}
use Rattle.trace_plain.specs.Terms.{OfTrace}
use Rattle.sym_rules.specs.Sym.{trace_of}

-- each register of which a value is assumed is there, and the value is one of its width
abbrev pub AreAssumptions : List RegDecl → List (ℕ × Bits) → Type 0
AreAssumptions registers [] = ⊤
AreAssumptions registers (a ∷ rest) = ((register_width registers a.0 ≡ Some a.1.width) × IsBits a.1) × AreAssumptions registers rest

-- a typed term without a division
pub record IsMadeTerm (t : Tree) : Type 0 where
  pub typed : IsTyped t
  pub no_division : HasNoDivision t

-- ---- laws, of the trace of a word in a typed program, whatever is assumed of registers in their widths

-- it keeps the rules: a variable is bound before it is used, by a read of a register or of memory, with that width, and no term has an array; registers are those of the text, a
-- term that is written is as wide as its register, and so is a value that is assumed; `assume` and `need` have bits; addresses have 64 bits; bytes are 1, 2, 4, 8 or 16, and a term that is written has as many
abbrev pub TracesKeepRules : Type 0
TracesKeepRules = (defs : List Definition) (given : List (ℕ × Bits)) (f : Text) (b : Bits)
    → IsTypedProgram defs → AreAssumptions (registers_of defs) given → IsBits b → IsByTheRules (registers_of defs) (trace_of defs given f b)

-- its terms are typed, and hold no division
abbrev pub TracesHaveMadeTerms : Type 0
TracesHaveMadeTerms = (defs : List Definition) (given : List (ℕ × Bits)) (f : Text) (b : Bits)
    → IsTypedProgram defs → AreAssumptions (registers_of defs) given → IsBits b → OfTrace IsMadeTerm (trace_of defs given f b)

-- where none of them is too high, it has a text
abbrev pub TracesHaveTexts : Type 0
TracesHaveTexts = (defs : List Definition) (given : List (ℕ × Bits)) (f : Text) (b : Bits)
    → IsTypedProgram defs → AreAssumptions (registers_of defs) given → IsBits b → OfTrace (λ t. height t ≤ HIGHEST) (trace_of defs given f b)
    → IsPrintable (length (registers_of defs)) (trace_of defs given f b)

-- ---- variables

-- variables of different numbers have different names
abbrev pub VariablesDiffer : Type 0
VariablesDiffer = (m n : ℕ) → m < 2 ^ 64 → n < 2 ^ 64 → m ≢ n → var_name m ≢ var_name n
