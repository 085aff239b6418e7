-- Numbers of nodes, and the numbers of the nodes that stand for them.
use Rattle.std.specs.Prelude.{ℕ, List, [], ◌∷◌, Option, Some, None, cond, nat_eq}
use Rattle.indexmap.specs.IndexMap.{get}
use Rattle.term_arena.specs.declared.node.TermId.{TermId}
use Rattle.term_arena.specs.declared.node.ArrayId.{ArrayId}
use Rattle.arena_replace.specs.declared.renumbering.Renumbering.{Renumbering}

-- the number that stands for this one
abbrev pub number_for : Renumbering → ℕ → Option ℕ
number_for m n = get nat_eq m.numbers n

-- what stands for a term, by the first pair that has it
abbrev pub first_term : List (TermId × TermId) → ℕ → Option ℕ
first_term [] n = None
first_term (p ∷ rest) n = cond (nat_eq p.0.number n) (Some p.1.number) (first_term rest n)

-- the same for an array term
abbrev pub first_array : List (ArrayId × ArrayId) → ℕ → Option ℕ
first_array [] n = None
first_array (p ∷ rest) n = cond (nat_eq p.0.number n) (Some p.1.number) (first_array rest n)
