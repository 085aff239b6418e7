-- Proof files as plain data.
use Rattle.std.specs.Prelude.{ℕ, List, Option}
use Rattle.bv_bits.specs.declared.Bits.{Bits}
use Rattle.state_core.specs.declared.word.Word.{Word}
use Rattle.clause_core.specs.declared.CertStep.{CertStep}
use Rattle.term_tree.specs.declared.term.VarDecl.{VarDecl}
use Rattle.term_tree.specs.Terms.{Text, Tree, ArrayTree}
use Rattle.term_tree.specs.Values.{Pairs}
use Rattle.assert_core.specs.Assertions.{PlainAssertion}
use Rattle.device_spec.specs.Devices.{PlainDevice}

-- an address, or a symbol and the place of its text
pub data PlainAddr : Type 0 where
  number : (n : ℕ) → PlainAddr
  symbol : (x : Text) → (at : ℕ) → PlainAddr

-- what stands for a certificate
pub data PlainCert : Type 0 where
  -- none is given yet
  unproved : PlainCert
  -- the steps of one
  given : (steps : List CertStep) → PlainCert

-- what is bound to a variable
pub data PlainBind : Type 0 where
  term : (t : Tree) → PlainBind
  array_term : (f : ArrayTree) → PlainBind
  register_value : (x : Text) → PlainBind
  place_value : (i : ℕ) → PlainBind

-- where a step leads
pub record PlainMove : Type 0 where
  pub to : Text
  pub binds : List PlainBind
  pub places : List ℕ

-- a step
pub data PlainStep : Type 0 where
  uses : (i : ℕ) → PlainStep
  uses_code : PlainStep
  keeps : PlainStep
  proves : (c : PlainCert) → PlainStep
  is_dead : (c : PlainCert) → PlainStep
  drops : (c : PlainCert) → PlainStep
  goes_to : (m : PlainMove) → PlainStep
  exits : (m : PlainMove) → PlainStep
  calls : (m : PlainMove) → PlainStep
  returns : (binds : List PlainBind) → (places : List ℕ) → PlainStep

-- a block
pub record PlainBlock : Type 0 where
  pub name : Text
  pub at : PlainAddr
  pub assertion : PlainAssertion
  pub steps : List PlainStep

-- an exit
pub record PlainExit : Type 0 where
  pub name : Text
  pub at : Tree
  pub assertion : PlainAssertion
  pub steps : List PlainStep

-- a supplied trace
pub record PlainSupplied : Type 0 where
  pub opcode : Word
  pub text : Text
  pub text_at : ℕ
  pub steps : List PlainStep

-- a state to begin with
pub record PlainSample : Type 0 where
  pub values : Pairs
  pub answers : List ℕ

-- a specification
pub record PlainSpec : Type 0 where
  pub name : Text
  pub fix : List VarDecl
  pub assumes : List (Text × Bits)
  pub given : List Tree
  pub code : List (PlainAddr × PlainAddr)
  pub exits : List PlainExit
  pub blocks : List PlainBlock
  pub traces : List PlainSupplied
  pub sample : Option PlainSample

-- what a call needs to know of a procedure
pub record PlainHead : Type 0 where
  pub name : Text
  pub fix : List VarDecl
  pub assumes : List (Text × Bits)
  pub given : List Tree
  pub code : List (PlainAddr × PlainAddr)
  pub at : PlainAddr
  pub entry : PlainAssertion
  pub back : Tree
  pub post : PlainAssertion

-- a procedure
pub record PlainProc : Type 0 where
  pub head : PlainHead
  pub blocks : List PlainBlock
  pub traces : List PlainSupplied

-- a proof file
pub record PlainProof : Type 0 where
  pub version : ℕ
  pub devices : List PlainDevice
  pub procs : List PlainProc
  pub specs : List PlainSpec
