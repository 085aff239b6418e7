-- What the axioms say of the facts and the goal, as terms.
use Rattle.std.specs.Prelude.{◌≡◌, ℕ, Bool, true, List, slice_get, Some, IsTrue, All}
use Rattle.bv_bits.specs.BitLaws.{has_bit}
use Rattle.clause_core.specs.declared.BitName.{BitName}
use Rattle.clause_core.specs.declared.BitName.TheVariants.{Truth, Bit}
use Rattle.clause_core.specs.declared.Lit.{Lit}
use Rattle.clause_core.specs.declared.Hint.TheVariants.{Axiom}
use Rattle.clause_core.specs.Clauses.{clause_holds}
use Rattle.clause_core.specs.Meaning.{HaveNoModel}
use Rattle.term_tree.specs.Terms.{Tree, IsTyped, width_of}
use Rattle.term_tree.specs.Values.{Values, IsValues, value}
use Rattle.axiom_rules.specs.Axioms.{clause_in}
use Rattle.axiom_trees.specs.Numbered.{parts_of, problem_of}

-- typed facts, and a typed goal of one bit
pub record AreAsked (facts : List Tree) (goal : Tree) : Type 0 where
  pub facts_typed : All IsTyped facts
  pub goal_typed : IsTyped goal
  pub lone : width_of goal ≡ 1

-- bits in which T is true, the own bits of each subterm are its value, and each axiom is true
pub record AreBits (facts : List Tree) (goal : Tree) (v : Values) (bits : BitName → Bool) : Type 0 where
  pub truth : bits Truth ≡ true
  pub own : (i : ℕ) (t : Tree) → slice_get (parts_of facts goal) i ≡ Some t → (j : ℕ) → bits (Bit i 0 j) ≡ has_bit (value v t).value j
  pub axioms : (i part j row : ℕ) (c : List Lit) → clause_in (problem_of facts goal) (Axiom i part j row) ≡ Some c → IsTrue (clause_holds bits c)

-- for all values of the variables there are such bits
abbrev pub HasBits : List Tree → Tree → Type 0
HasBits facts goal = (v : Values) → IsValues v → (bits : BitName → Bool) × AreBits facts goal v bits

-- the goal is 1 wherever all facts are
abbrev pub Follows : List Tree → Tree → Type 0
Follows facts goal = (v : Values) → IsValues v → All (λ t. (value v t).value ≡ 1) facts → (value v goal).value ≡ 1

-- where no bits make all named clauses true, the goal follows from the facts
abbrev pub GoalFollows : List Tree → Tree → Type 0
GoalFollows facts goal = HaveNoModel (clause_in (problem_of facts goal)) → Follows facts goal
