-- Assertions as plain data, and which of their items are places.
use Rattle.std.specs.Prelude.{⊤, ℕ, Bool, true, false, List, All, Option, IfSome}
use Rattle.term_tree.specs.declared.term.VarDecl.{VarDecl}
use Rattle.term_tree.specs.Terms.{Text, Tree, ArrayTree, IsTyped, IsTypedArray}

-- what an assertion says of one thing
pub data PlainItem : Type 0 where
  -- a fact: the term is 1
  fact : (t : Tree) → PlainItem
  -- a register, with its value where one is written
  reg : (x : Text) → (written : Option Tree) → PlainItem
  -- so many bytes from an address on, and the number in them
  mem : (at : Tree) → (bytes : ℕ) → (number : Tree) → PlainItem
  -- the bytes of an array from an address on, and how many they are
  arr : (at len : Tree) → (of : ArrayTree) → PlainItem
  -- a device, and its state
  dev : (x : Text) → (q : ℕ) → PlainItem

-- items, and the variables that are theirs alone
pub record PlainAssertion : Type 0 where
  pub vars : List VarDecl
  pub items : List PlainItem

-- whether an item is a place: bytes, an array of bytes, or a device
abbrev pub is_place : PlainItem → Bool
is_place (fact t) = false
is_place (reg x written) = false
is_place (mem at bytes number) = true
is_place (arr at len of) = true
is_place (dev x q) = true

-- the terms of an item are typed
abbrev pub IsTypedItem : PlainItem → Type 0
IsTypedItem (fact t) = IsTyped t
IsTypedItem (reg x written) = IfSome written IsTyped
IsTypedItem (mem at bytes number) = IsTyped at × IsTyped number
IsTypedItem (arr at len of) = IsTyped at × IsTyped len × IsTypedArray of
IsTypedItem (dev x q) = ⊤
