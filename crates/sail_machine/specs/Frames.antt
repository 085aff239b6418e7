-- What is open while a program is read, innermost first, and what comes next.
use Rattle.std.specs.Prelude.{ℕ, zero, suc, ◌+◌, Bool, List, [], ◌∷◌, Option}
use Rattle.sail_syntax.specs.Tree.{Text, Tree, Case, Step}
use Rattle.sail_syntax.specs.Program.{Definition}
use Rattle.sail_syntax.specs.declared.tree.Infix.{Infix}
use Rattle.sail_syntax.specs.declared.tree.Index.{Index}
use Rattle.sail_syntax.specs.declared.patterns.Pattern.{Pattern}
use Rattle.sail_syntax.specs.declared.types.Ty.{Ty}
use Rattle.sail_machine.specs.declared.heads.Binder.{Binder}
use Rattle.sail_machine.specs.declared.heads.FunctionHead.{FunctionHead}
use Rattle.sail_machine.specs.declared.awaited.Await.{Await}

-- something that is open, with the place where its first token begins
pub data Frame : Type 0 where
  -- the text, and its definitions so far
  program : (ds : List Definition) → Frame
  -- a function, whose body is awaited
  body : (head : FunctionHead) → (result : Ty) → Frame
  -- parentheses
  paren : (at : ℕ) → Frame
  -- a call, and its arguments so far
  args : (f : Text) → (xs : List Tree) → (at : ℕ) → Frame
  -- an if, whose test is awaited
  testing : (at : ℕ) → Frame
  -- an if, whose part behind `then` is awaited
  choosing : (test : Tree) → (at : ℕ) → Frame
  -- an if, whose part behind `else` is awaited
  otherwise : (test one : Tree) → (at : ℕ) → Frame
  -- a match, what it is on is awaited
  subject : (at : ℕ) → Frame
  -- a match, and its arms so far
  arms : (on : Tree) → (cs : List Case) → (at : ℕ) → Frame
  -- a match, and the arm whose body is awaited
  armed : (on : Tree) → (cs : List Case) → (pattern : Pattern) → (at : ℕ) → Frame
  -- a chain, and its operands so far
  chained : (op : Infix) → (xs : List Tree) → (at : ℕ) → Frame
  -- an assignment
  assigning : (x : Text) → (at : ℕ) → Frame
  -- `~`
  flipping : (at : ℕ) → Frame
  -- slices of an operand, so many of them whole
  slicing : (of : Tree) → (whole : ℕ) → (at : ℕ) → Frame
  -- an update, what it updates is awaited
  updating : (at : ℕ) → Frame
  -- an update, whose indices are awaited
  indexing : (of : Tree) → (at : ℕ) → Frame
  -- an update, what replaces the bits is awaited
  replacing : (of : Tree) → (hi lo : Index) → (at : ℕ) → Frame
  -- a widening, whose width is awaited
  widening : (signed : Bool) → (at : ℕ) → Frame
  -- a widening, what it widens is awaited
  widened : (signed : Bool) → (to : ℕ) → (at : ℕ) → Frame
  -- an assert, whose test is awaited
  asserting : (at : ℕ) → Frame
  -- an assert, whose text is awaited
  asserted : (test : Tree) → (at : ℕ) → Frame
  -- a foreach, whose block is awaited
  looping : (x : Text) → (from to : ℕ) → (at : ℕ) → Frame
  -- a block, and its statements so far
  statements : (ss : List Step) → (at : ℕ) → Frame
  -- a block, and the local whose value is awaited
  binding : (ss : List Step) → (binder : Binder) → (x : Text) → (ty : Option Ty) → (at : ℕ) → Frame

abbrev pub Frames : Type 0
Frames = List Frame

-- by how much a frame nests deeper what stands in it
abbrev pub weight : Frame → ℕ
weight (program ds) = 0
weight (body head result) = 0
weight (paren at) = 1
weight (args f xs at) = 1
weight (testing at) = 1
weight (choosing test at) = 1
weight (otherwise test one at) = 1
weight (subject at) = 1
-- the match, and its brace
weight (arms on cs at) = 2
weight (armed on cs pattern at) = 2
weight (chained op xs at) = 0
weight (assigning x at) = 1
weight (flipping at) = 1
-- the bracket, and the slices before it
weight (slicing of whole at) = suc whole
weight (updating at) = 1
weight (indexing of at) = 1
weight (replacing of hi lo at) = 1
weight (widening signed at) = 1
weight (widened signed to at) = 1
weight (asserting at) = 1
weight (asserted test at) = 1
-- its bracket is closed before the block
weight (looping x from to at) = 0
weight (statements ss at) = 1
weight (binding ss binder x ty at) = 1

-- the nesting of a token that stands in all of these
abbrev pub nest : Frames → ℕ
nest [] = 0
nest (f ∷ k) = nest k + weight f

-- what comes next
pub data Mode : Type 0 where
  -- one of these
  awaits : (a : Await) → Mode
  -- what follows an operand with so many slices, whose first token begins at the place
  have : (x : Tree) → (slices : ℕ) → (at : ℕ) → Mode
  -- what follows an expression that no operator continues
  whole : (x : Tree) → Mode
