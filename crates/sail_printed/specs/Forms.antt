-- Programs that the grammar has a spelling for, but for its limits of length, number and nesting.
use Rattle.std.specs.Prelude.{◌≡◌, ◌≤◌, ℕ, Bool, true, ⊤, List, [], ◌∷◌, ◌++◌, Option, Some, None}
use Rattle.bv_bits.specs.Bits.{IsBits, IsWidth}
use Rattle.lex_core.specs.declared.token.Kind.TheVariants as kind
use Rattle.lex_core.specs.Forms.{has_form}
use Rattle.sail_syntax.specs.Tree.{Text, Tree, node, Form, unit, lit, truth, name, chain, flip, slice, update, call, widen, choose, when, cases, foreach, check, exit, assign, block, Trees, none, some, Case, arm, Cases, no_case, case, Step, binds, holds, does, Steps, done, next}
use Rattle.sail_syntax.specs.Program.{Definition, Function, order, register, enumeration, signature, function}
use Rattle.sail_syntax.specs.declared.tree.Infix.{Infix}
use Rattle.sail_syntax.specs.declared.tree.Index.{Index}
use Rattle.sail_syntax.specs.declared.patterns.Pattern.{Pattern}
use Rattle.sail_syntax.specs.declared.patterns.Pattern.TheVariants as pattern
use Rattle.sail_syntax.specs.declared.patterns.Part.{Part}
use Rattle.sail_syntax.specs.declared.patterns.Part.TheVariants as part
use Rattle.sail_syntax.specs.declared.types.Ty.{Ty}
use Rattle.sail_syntax.specs.declared.types.Ty.TheVariants as ty
use Rattle.sail_syntax.specs.declared.types.Param.{Param}
use Rattle.sail_grammar.specs.Words.{keywords, looked_up}
use Rattle.sail_grammar.specs.Expressions.{IsIndexNumber, repeats}

-- a name to the lexer, and none of the quoted words
pub record IsName (x : Text) : Type 0 where
  pub form : has_form kind.Name x ≡ true
  pub free : looked_up keywords x ≡ None

-- bytes that may stand between quotes
abbrev pub IsInside : Text → Type 0
IsInside z = has_form kind.Text (34 ∷ (z ++ 34 ∷ [])) ≡ true

-- ---- what holds no expression

-- a type
abbrev pub IsFormedType : Ty → Type 0
IsFormedType ty.Unit = ⊤
IsFormedType ty.Bool = ⊤
IsFormedType (ty.Bits w) = IsWidth w
IsFormedType (ty.Enum x) = IsName x

-- the type that is written behind a name
abbrev pub IsFormedWritten : Option Ty → Type 0
IsFormedWritten None = ⊤
IsFormedWritten (Some t) = IsFormedType t

-- the variable of an index
abbrev pub IsFormedVariable : Option Text → Type 0
IsFormedVariable None = ⊤
IsFormedVariable (Some x) = IsName x

-- an index
abbrev pub IsFormedIndex : Index → Type 0
IsFormedIndex i = IsFormedVariable i.var × IsIndexNumber i.plus

-- a part of a pattern
abbrev pub IsFormedPart : Part → Type 0
IsFormedPart (part.Lit b) = IsBits b
IsFormedPart (part.Bind x w) = IsName x × IsWidth w
IsFormedPart (part.Skip w) = IsWidth w

-- parts of a pattern, one at least
abbrev pub AreFormedParts : List Part → Type 0
AreFormedParts [] = ⊥
AreFormedParts (p ∷ []) = IsFormedPart p
AreFormedParts (p ∷ q ∷ ps) = IsFormedPart p × AreFormedParts (q ∷ ps)

-- parts of a pattern, two at least
abbrev pub AreSeveralParts : List Part → Type 0
AreSeveralParts [] = ⊥
AreSeveralParts (p ∷ ps) = IsFormedPart p × AreFormedParts ps

-- a pattern
abbrev pub IsFormedPattern : Pattern → Type 0
IsFormedPattern pattern.Any = ⊤
IsFormedPattern (pattern.Name x) = IsName x
IsFormedPattern (pattern.Lit b) = IsBits b
IsFormedPattern (pattern.Truth b) = ⊤
IsFormedPattern (pattern.Parts ps) = AreSeveralParts ps

-- ---- expressions

-- an expression that is a block
abbrev pub IsBlock : Tree → Type 0
IsBlock (node at (block steps)) = ⊤
IsBlock (node at unit) = ⊥
IsBlock (node at (lit b)) = ⊥
IsBlock (node at (truth b)) = ⊥
IsBlock (node at (name x)) = ⊥
IsBlock (node at (chain op parts)) = ⊥
IsBlock (node at (flip of)) = ⊥
IsBlock (node at (slice of hi lo)) = ⊥
IsBlock (node at (update of hi lo by)) = ⊥
IsBlock (node at (call f args)) = ⊥
IsBlock (node at (widen signed to of)) = ⊥
IsBlock (node at (choose test one other)) = ⊥
IsBlock (node at (when test one)) = ⊥
IsBlock (node at (cases on arms)) = ⊥
IsBlock (node at (foreach x from to body)) = ⊥
IsBlock (node at (check test text)) = ⊥
IsBlock (node at exit) = ⊥
IsBlock (node at (assign x by)) = ⊥

abbrev mutual
  -- an expression
  pub IsFormed : Tree → Type 0
  IsFormed (node at form) = HasForm form

  -- what an expression is
  pub HasForm : Form → Type 0
  HasForm unit = ⊤
  HasForm (lit b) = IsBits b
  HasForm (truth b) = ⊤
  HasForm (name x) = IsName x
  HasForm (chain op parts) = IsFormedChain op parts
  HasForm (flip of) = IsFormed of
  HasForm (slice of hi lo) = IsFormed of × IsFormedIndex hi × IsFormedIndex lo
  HasForm (update of hi lo by) = IsFormed of × IsFormedIndex hi × IsFormedIndex lo × IsFormed by
  HasForm (call f args) = IsName f × AreFormed args
  HasForm (widen signed to of) = IsWidth to × IsFormed of
  HasForm (choose test one other) = IsFormed test × IsFormed one × IsFormed other
  HasForm (when test one) = IsFormed test × IsFormed one
  HasForm (cases on arms) = IsFormed on × AreFormedCases arms
  HasForm (foreach x from to body) = IsName x × IsIndexNumber from × IsIndexNumber to × IsBlock body × IsFormed body
  HasForm (check test text) = IsFormed test × IsInside text
  HasForm exit = ⊤
  HasForm (assign x by) = IsName x × IsFormed by
  HasForm (block steps) = AreFormedSteps steps

  -- expressions in a row
  pub AreFormed : Trees → Type 0
  AreFormed none = ⊤
  AreFormed (some t ts) = IsFormed t × AreFormed ts

  -- the parts of a chain, two at least
  pub IsFormedChain : Infix → Trees → Type 0
  IsFormedChain op none = ⊥
  IsFormedChain op (some t ts) = IsFormed t × IsFormedRest op ts

  -- those behind the first one: one at least, and more where the operator may stand several times
  pub IsFormedRest : Infix → Trees → Type 0
  IsFormedRest op none = ⊥
  IsFormedRest op (some t none) = IsFormed t
  IsFormedRest op (some t (some u ts)) = IsFormed t × (repeats op ≡ true) × IsFormedRest op (some u ts)

  -- an arm of a match
  pub IsFormedCase : Case → Type 0
  IsFormedCase (arm p body) = IsFormedPattern p × IsFormed body

  -- arms in a row, one at least
  pub AreFormedCases : Cases → Type 0
  AreFormedCases no_case = ⊥
  AreFormedCases (case c no_case) = IsFormedCase c
  AreFormedCases (case c (case d rest)) = IsFormedCase c × AreFormedCases (case d rest)

  -- a statement
  pub IsFormedStep : Step → Type 0
  IsFormedStep (binds x ty by) = IsName x × IsFormedWritten ty × IsFormed by
  IsFormedStep (holds x ty by) = IsName x × IsFormedWritten ty × IsFormed by
  IsFormedStep (does e) = IsFormed e

  -- statements in a row
  pub AreFormedSteps : Steps → Type 0
  AreFormedSteps done = ⊤
  AreFormedSteps (next s rest) = IsFormedStep s × AreFormedSteps rest

-- ---- definitions

-- names in a row, one at least
abbrev pub AreNames : List Text → Type 0
AreNames [] = ⊥
AreNames (x ∷ []) = IsName x
AreNames (x ∷ y ∷ xs) = IsName x × AreNames (y ∷ xs)

-- types in a row
abbrev pub AreFormedTypes : List Ty → Type 0
AreFormedTypes [] = ⊤
AreFormedTypes (t ∷ ts) = IsFormedType t × AreFormedTypes ts

-- parameters in a row
abbrev pub AreFormedParams : List Param → Type 0
AreFormedParams [] = ⊤
AreFormedParams (p ∷ ps) = IsName p.name × IsFormedType p.ty × AreFormedParams ps

-- a definition, but for the order of bits
abbrev pub IsFormedDefinition : Definition → Type 0
IsFormedDefinition order = ⊥
IsFormedDefinition (register x width at) = IsName x × IsWidth width
IsFormedDefinition (enumeration x members at) = IsName x × AreNames members
IsFormedDefinition (signature x args result at) = IsName x × AreFormedTypes args × IsFormedType result
IsFormedDefinition (function f) = IsName f.name × AreFormedParams f.params × IsFormedType f.result × IsFormed f.body

-- definitions in a row
abbrev pub AreFormedDefinitions : List Definition → Type 0
AreFormedDefinitions [] = ⊤
AreFormedDefinitions (d ∷ ds) = IsFormedDefinition d × AreFormedDefinitions ds

-- a program: the order of bits stands first or nowhere
abbrev pub IsFormedProgram : List Definition → Type 0
IsFormedProgram [] = ⊤
IsFormedProgram (order ∷ ds) = AreFormedDefinitions ds
IsFormedProgram (register x width at ∷ ds) = AreFormedDefinitions (register x width at ∷ ds)
IsFormedProgram (enumeration x members at ∷ ds) = AreFormedDefinitions (enumeration x members at ∷ ds)
IsFormedProgram (signature x args result at ∷ ds) = AreFormedDefinitions (signature x args result at ∷ ds)
IsFormedProgram (function f ∷ ds) = AreFormedDefinitions (function f ∷ ds)
