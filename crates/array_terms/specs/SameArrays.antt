-- When two arrays are equal below a length.
use Rattle.std.specs.Prelude.{◌≡◌, ⊤, ℕ, ◌<◌, List, [], ◌∷◌}
use Rattle.bv_bits.specs.declared.Op.TheVariants.{Eq, ULt}
use Rattle.term_tree.specs.Terms.{Text, Tree, var, two, ArrayTree, IsTypedArray, IsIndex}
use Rattle.term_tree.specs.Values.{Values, IsValues, value, byte_at}
use Rattle.term_tree.specs.Variables.{HasVariables, ArrayHasVariables}
use Rattle.term_make.specs.Making.{make}
use Rattle.term_select.specs.Selecting.{select}
use Rattle.term_arena.specs.Nodes.{Node}
use Rattle.term_arena.specs.Answers.{id_term}
use Rattle.term_arena.specs.Said.{Said, said_of, said_then, said_just, single}
use Rattle.array_terms.specs.declared.same.ArrayGoal.{ArrayGoal}

-- ---- the fact and the goal

-- the name `_i`
abbrev pub INDEX : Text
INDEX = 95 ∷ 105 ∷ []

-- the index at which arrays are compared, 64 bits wide
abbrev pub index : Tree
index = var INDEX 64

-- the index is below the length
abbrev pub below : Tree → Tree
below len = (make (two ULt index len)).it

-- the bytes at the index are equal
abbrev pub bytes_equal : ArrayTree → ArrayTree → Tree
bytes_equal f g = (make (two Eq (select f index).it (select g index).it)).it

-- both
abbrev pub same_terms : ArrayTree → ArrayTree → Tree → Tree × Tree
same_terms f g len = (below len, bytes_equal f g)

-- the same, with the terms that are made on the way
abbrev pub said_same : ArrayTree → ArrayTree → Tree → Said ⊥ (Tree × Tree)
said_same f g len =
    said_then (single index) (λ i.
    said_then (said_of (make (two ULt i len))) (λ fact.
    said_then (said_of (select f i)) (λ x.
    said_then (said_of (select g i)) (λ y.
    said_then (said_of (make (two Eq x y))) (λ goal. said_just (fact, goal))))))

-- the fact and the goal of numbers
abbrev pub fact_and_goal : List Node → ArrayGoal → Tree × Tree
fact_and_goal nodes g = (id_term nodes g.fact, id_term nodes g.goal)

-- ---- what they say

-- a variable that is the index
abbrev pub IsIndexVariable : Text → ℕ → Type 0
IsIndexVariable x w = (x ≡ INDEX) × (w ≡ 64)

-- a term in which the index isn't a variable
abbrev pub LacksIndex : Tree → Type 0
LacksIndex t = HasVariables (λ x w. IsIndexVariable x w → ⊥) (λ f. ⊤) t

-- the same of an array term
abbrev pub ArrayLacksIndex : ArrayTree → Type 0
ArrayLacksIndex f = ArrayHasVariables (λ x w. IsIndexVariable x w → ⊥) (λ f. ⊤) f

-- values that differ at the index at most
pub record DifferAtIndex (v u : Values) : Type 0 where
  pub bits : (x : Text) (w : ℕ) → (IsIndexVariable x w → ⊥) → u.bits_of x w ≡ v.bits_of x w
  pub bytes : (f : Text) (i : ℕ) → u.byte_of f i ≡ v.byte_of f i

-- wherever values differ from these at the index at most, the goal is 1 where the fact is
abbrev pub HoldsAtEachIndex : Values → ArrayTree → ArrayTree → Tree → Type 0
HoldsAtEachIndex v f g len = (u : Values) → IsValues u → DifferAtIndex v u → (value u (below len)).value ≡ 1 → (value u (bytes_equal f g)).value ≡ 1

-- then the arrays agree below the length
abbrev pub ArraysAgree : Values → ArrayTree → ArrayTree → Tree → Type 0
ArraysAgree v f g len = (k : ℕ) → k < (value v len).value → byte_at v f k ≡ byte_at v g k

-- for all arrays and a length without the index
abbrev pub SameArraysAgree : Type 0
SameArraysAgree =
    (v : Values) (f g : ArrayTree) (len : Tree) → IsValues v → IsTypedArray f → IsTypedArray g → IsIndex len → ArrayLacksIndex f → ArrayLacksIndex g → LacksIndex len
    → HoldsAtEachIndex v f g len → ArraysAgree v f g len
