-- Applications that are made: the rules are tried first to last, and every application on a right side is made in turn.
use Rattle.std.specs.Prelude.{◌≡◌, ℕ, zero, suc, ◌+◌, ◌*◌, Bool, ◌||◌, if◌then◌else◌, List, [], ◌∷◌, ◌++◌, Option, Some, None, nat_lt}
use Rattle.std.specs.List.{list_any}
use Rattle.bv_bits.specs.declared.Op.{Op}
use Rattle.term_tree.specs.Terms.{Tree, one, two, ArrayTree, height, array_height, HIGHEST}
use Rattle.term_rules.specs.Rules.{Right, given, made_one, made_two, rule_of}
use Rattle.term_tree.specs.Sizes.{size}

-- ---- the relation

mutual
  -- what is made of an application: itself where no rule fits, else what the first right side builds
  pub data IsMade : Tree → Tree → Type 0 where
    plain : {t : Tree} → rule_of t ≡ None → IsMade t t
    ruled : {t u : Tree} {r : Right} → rule_of t ≡ Some r → IsBuilt r u → IsMade t u

  -- what a right side builds, each of its applications made
  pub data IsBuilt : Right → Tree → Type 0 where
    stands : {t : Tree} → IsBuilt (given t) t
    builds_one : {op : Op} {r : Right} {x t : Tree} → IsBuilt r x → IsMade (one op x) t → IsBuilt (made_one op r) t
    builds_two : {op : Op} {r s : Right} {x y t : Tree} → IsBuilt r x → IsBuilt s y → IsMade (two op x y) t → IsBuilt (made_two op r s) t

-- ---- the same as a function

-- an application that was asked for, and what was made of it
abbrev pub Asked : Type 0
Asked = Tree × Tree

-- a term, with all that was made on the way: applications, and array terms
pub record Made (A : Type 0) : Type 0 where
  pub it : A
  pub asked : List Asked
  pub stored : List ArrayTree

-- nothing was made
abbrev pub just : {A : Type 0} → A → Made A
just x = record { it = x; asked = []; stored = [] }

-- one is made, and then another one of it
abbrev pub made_then : {A B : Type 0} → Made A → (A → Made B) → Made B
made_then m f = record { it = (f m.it).it; asked = m.asked ++ (f m.it).asked; stored = m.stored ++ (f m.it).stored }

-- the application t was asked for, and m made of it
abbrev pub asks : Tree → Made Tree → Made Tree
asks t m = record { it = m.it; asked = m.asked ++ (t, m.it) ∷ []; stored = m.stored }

-- a right side, whose applications are made by `make`
abbrev pub build : (Tree → Made Tree) → Right → Made Tree
build make (given t) = just t
build make (made_one op r) = made_then (build make r) (λ x. make (one op x))
build make (made_two op r s) = made_then (build make r) (λ x. made_then (build make s) (λ y. make (two op x y)))

-- an application by a right side, or as it is
abbrev pub make_by : (Tree → Made Tree) → Tree → Option Right → Made Tree
make_by make t (Some r) = asks t (build make r)
make_by make t None = asks t (just t)

-- an application, by at most n rules one inside the other
abbrev pub make_within : ℕ → Tree → Made Tree
make_within zero t = asks t (just t)
make_within (suc n) t = make_by (make_within n) t (rule_of t)

-- an application, by as many rules as fit: there are never more than this bound
abbrev pub make : Tree → Made Tree
make t = make_within (4 * size t) t

-- ---- the limit

-- whether a term is too high
abbrev pub is_high : Tree → Bool
is_high t = nat_lt HIGHEST (height t)

-- whether a term that is too high would be made, as the result or on the way
abbrev pub goes_high : {A : Type 0} → Made A → Bool
goes_high m = list_any (λ a. is_high a.1) m.asked || list_any (λ f. nat_lt HIGHEST (array_height f)) m.stored

-- what is made, unless a term that is too high would be
abbrev pub within_height : {A : Type 0} → Made A → Option A
within_height m = if goes_high m then None else Some m.it
