-- The subterms of facts and a goal, by numbers.
use Rattle.std.specs.Prelude.{ℕ, zero, suc, Bool, false, if◌then◌else◌, List, [], ◌∷◌, ◌++◌, map, bytes_eq}
use Rattle.term_tree.specs.Terms.{Text, Tree, lit, var, one, two, three, sel, width_of, same_tree}
use Rattle.term_copy.specs.Parts.{subterms_of}
use Rattle.axiom_rules.specs.declared.node.Node.{Node}
use Rattle.axiom_rules.specs.declared.node.Node.TheVariants.{Literal, Variable, One, Two, Three, Byte}
use Rattle.axiom_rules.specs.declared.node.Sub.{Sub}
use Rattle.axiom_rules.specs.Axioms.{Problem}

-- the place of the first term that passes a test, and the length of the list where none does
abbrev pub place_of : (Tree → Bool) → List Tree → ℕ
place_of test [] = zero
place_of test (t ∷ ts) = if test t then zero else suc (place_of test ts)

-- the number of a subterm
abbrev pub number_in : List Tree → Tree → ℕ
number_in ts t = place_of (same_tree t) ts

-- whether a term is a byte of this array variable
abbrev pub is_byte_of : Text → Tree → Bool
is_byte_of f (sel g i) = bytes_eq f g
is_byte_of f t = false

-- the number of an array variable: that of the first subterm that is a byte of it
abbrev pub array_in : List Tree → Text → ℕ
array_in ts f = place_of (is_byte_of f) ts

-- the top of a subterm, its parts by their numbers
abbrev pub node_in : List Tree → Tree → Node
node_in ts (lit b) = Literal b.value
node_in ts (var x w) = Variable
node_in ts (one op a) = One op (number_in ts a)
node_in ts (two op a b) = Two op (number_in ts a) (number_in ts b)
node_in ts (three op a b c) = Three op (number_in ts a) (number_in ts b) (number_in ts c)
node_in ts (sel f i) = Byte (array_in ts f) (number_in ts i)

-- a subterm
abbrev pub sub_in : List Tree → Tree → Sub
sub_in ts t = record { width = width_of t; node = node_in ts t }

-- the distinct subterms of the facts in order and then of the goal, each behind its own parts
abbrev pub parts_of : List Tree → Tree → List Tree
parts_of facts goal = subterms_of (facts ++ goal ∷ [])

-- facts and a goal over these subterms
abbrev pub problem_over : List Tree → List Tree → Tree → Problem
problem_over ts facts goal = record { subs = map (sub_in ts) ts; facts = map (number_in ts) facts; goal = number_in ts goal }

-- facts and a goal over their own subterms
abbrev pub problem_of : List Tree → Tree → Problem
problem_of facts goal = problem_over (parts_of facts goal) facts goal
