-- The syntax tree as plain data: an expression, its parts, and lists of them.
use Rattle.std.specs.Prelude.{ℕ, Bool, List, Option}
use Rattle.bv_bits.specs.declared.Bits.{Bits}
use Rattle.sail_syntax.specs.declared.tree.Infix.{Infix}
use Rattle.sail_syntax.specs.declared.tree.Index.{Index}
use Rattle.sail_syntax.specs.declared.patterns.Pattern.{Pattern}
use Rattle.sail_syntax.specs.declared.types.Ty.{Ty}

-- a name or another text, as its bytes
abbrev pub Text : Type 0
Text = List ℕ

mutual
  -- an expression
  pub data Tree : Type 0 where
    -- what it is, and where its first token begins
    node : (at : ℕ) → (form : Form) → Tree

  -- what an expression is
  pub data Form : Type 0 where
    -- ()
    unit : Form
    -- a hex or binary literal
    lit : (b : Bits) → Form
    -- true or false
    truth : (b : Bool) → Form
    -- a local, a register or an enum member
    name : (x : Text) → Form
    -- two parts or more with one operator between them
    chain : (op : Infix) → (parts : Trees) → Form
    -- each bit turned round
    flip : (of : Tree) → Form
    -- the bits from hi down to lo
    slice : (of : Tree) → (hi lo : Index) → Form
    -- the bits of the first tree, those from hi down to lo replaced by the second
    update : (of : Tree) → (hi lo : Index) → (by : Tree) → Form
    -- a call of a function of the program or of the prelude
    call : (f : Text) → (args : Trees) → Form
    -- widened to so many bits, with copies of the sign bit or with zeros
    widen : (signed : Bool) → (to : ℕ) → (of : Tree) → Form
    -- an if with an else
    choose : (test one other : Tree) → Form
    -- an if without an else
    when : (test one : Tree) → Form
    -- a match
    cases : (on : Tree) → (arms : Cases) → Form
    -- the body for each number from the first to the last
    foreach : (x : Text) → (from to : ℕ) → (body : Tree) → Form
    -- an assert, and its text
    check : (test : Tree) → (text : Text) → Form
    -- exit()
    exit : Form
    -- an assignment to a register or to a local
    assign : (x : Text) → (by : Tree) → Form
    -- statements in braces
    block : (steps : Steps) → Form

  -- expressions in a row
  pub data Trees : Type 0 where
    -- no expression
    none : Trees
    -- the first, and those after it
    some : (first : Tree) → (rest : Trees) → Trees

  -- an arm of a match
  pub data Case : Type 0 where
    -- its pattern, and what is done where that fits
    arm : (pattern : Pattern) → (body : Tree) → Case

  -- arms in a row
  pub data Cases : Type 0 where
    -- no arm
    no_case : Cases
    -- the first, and those after it
    case : (first : Case) → (rest : Cases) → Cases

  -- a statement of a block
  pub data Step : Type 0 where
    -- let: a local that is never assigned, and the type that is written for it, if there is one
    binds : (x : Text) → (ty : Option Ty) → (by : Tree) → Step
    -- var: a local that may be assigned
    holds : (x : Text) → (ty : Option Ty) → (by : Tree) → Step
    -- an expression
    does : (e : Tree) → Step

  -- statements in a row
  pub data Steps : Type 0 where
    -- no statement
    done : Steps
    -- the first, and those after it
    next : (first : Step) → (rest : Steps) → Steps
