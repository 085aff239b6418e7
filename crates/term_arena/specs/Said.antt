-- What a definition answers, and the terms that it names or makes on the way.
use Rattle.std.specs.Prelude.{List, [], ◌∷◌, ◌++◌}
use Rattle.term_tree.specs.Terms.{Tree, ArrayTree}
use Rattle.term_rules.specs.Rules.{Right, given, made_one, made_two}
use Rattle.term_tree.specs.Terms.{one, two}
use Rattle.term_make.specs.Making.{Made, make}
use Rattle.term_arena.specs.Nodes.{Meaning, of_term, as_term}
use Rattle.term_arena.specs.Built.{built, parts, array_parts}

-- an answer, or the first refusal by a rule, with its reason
pub data Answer (R A : Type 0) : Type 0 where
  Answers : A → Answer R A
  Refuses : R → Answer R A

-- an answer, and the terms and array terms up to it
pub record Said (R A : Type 0) : Type 0 where
  pub answer : Answer R A
  pub work : List Meaning

-- an answer with no terms
abbrev pub says : {R A : Type 0} → Answer R A → Said R A
says x = record { answer = x; work = [] }

abbrev pub said_just : {R A : Type 0} → A → Said R A
said_just x = says (Answers x)

-- the same answer, behind more terms
abbrev pub behind : {R A : Type 0} → List Meaning → Said R A → Said R A
behind done s = record { answer = s.answer; work = done ++ s.work }

-- an answer, and then another one of it; a refusal ends all
abbrev pub answer_then : {R A B : Type 0} → Answer R A → List Meaning → (A → Said R B) → Said R B
answer_then (Answers x) done f = behind done (f x)
answer_then (Refuses why) done f = record { answer = Refuses why; work = done }

unfoldable pub said_then : {R A B : Type 0} → Said R A → (A → Said R B) → Said R B
said_then s f = answer_then s.answer s.work f

-- ---- terms

-- a term that is made
abbrev pub said_of : {R A : Type 0} → Made A → Said R A
said_of m = record { answer = Answers m.it; work = built m }

-- what a node stands for, and nothing else
abbrev pub sole : {R A : Type 0} → (Meaning → A) → Meaning → Said R A
sole f m = record { answer = Answers (f m); work = m ∷ [] }

-- a term by itself
abbrev pub single : {R : Type 0} → Tree → Said R Tree
single t = sole as_term (of_term t)

-- a term with all its parts
abbrev pub whole_term : {R : Type 0} → Tree → Said R Tree
whole_term t = record { answer = Answers t; work = parts t }

-- an array term with all its parts
abbrev pub whole_array : {R : Type 0} → ArrayTree → Said R ArrayTree
whole_array f = record { answer = Answers f; work = array_parts f }

-- a right side, each of its applications made
abbrev pub said_right : {R : Type 0} → Right → Said R Tree
said_right (given t) = single t
said_right (made_one op r) = said_then (said_right r) (λ x. said_of (make (one op x)))
said_right (made_two op r s) = said_then (said_right r) (λ x. said_then (said_right s) (λ y. said_of (make (two op x y))))
