-- More terms than there may be.
use Rattle.std.specs.Prelude.{◌≢◌, ℕ, ◌<◌, List, ◌++◌, length, Contains, All, slice_index_or}
use Rattle.term_tree.specs.Terms.{blank}
use Rattle.term_arena.specs.Nodes.{Node, Meaning, of_term, meanings_of, Keeps}
use Rattle.term_arena.specs.declared.keeping.TheConstants.{LIMIT}
use Rattle.term_arena.specs.Arena.{IsArena}
use Rattle.term_arena.specs.Keeping.{EqualTermsAreOne, EqualArraysAreOne}
use Rattle.term_arena.specs.Built.{AddsOnly, IsFull}

-- the terms of the old nodes and these are, as one set, more than there may be
pub record Exceeds (old : List Node) (work : List Meaning) : Type 0 where
  pub members : List Meaning
  pub many : LIMIT < length members
  pub once : (i j : ℕ) → i < j → j < length members → slice_index_or members i (of_term blank) ≢ slice_index_or members j (of_term blank)
  pub each : All (Contains (meanings_of old ++ work)) members

-- a call that has no room has more terms than there may be
abbrev pub FullExceeds : Type 0
FullExceeds =
    (old new : List Node) (work : List Meaning) → IsArena new → EqualTermsAreOne new → EqualArraysAreOne new → Keeps old new → AddsOnly old new work → IsFull new work → Exceeds old work
