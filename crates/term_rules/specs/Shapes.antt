-- The tops of terms, and right sides of rules, whatever stands for terms.
use Rattle.std.specs.Prelude.{◌≡◌, Bool, true, false, Option, Some, None}
use Rattle.std.specs.Option.{option_map}
use Rattle.bv_bits.specs.declared.Bits.{Bits}
use Rattle.bv_bits.specs.declared.Op.TheVariants.{Add}
use Rattle.term_rules.specs.declared.rules.Shape.{Shape}
use Rattle.term_rules.specs.declared.rules.Shape.TheVariants as shape
use Rattle.term_rules.specs.declared.rules.Right.TheVariants as right
use Rattle.term_rules.specs.declared.rules.Right as code
use Rattle.term_tree.specs.Terms.{Tree, lit, var, one, two, three, sel}
use Rattle.term_rules.specs.Rules.{Right, given, made_one, made_two}

-- the bits of a literal
abbrev pub literal_of : Tree → Option Bits
literal_of (lit b) = Some b
literal_of t = None

-- the two parts of a sum of a term and a literal
abbrev pub sum_parts : Tree → Option (Tree × Bits)
sum_parts (two Add x y) = option_map (λ c. (x, c)) (literal_of y)
sum_parts t = None

-- whether a term is neither a literal nor an operator at one or two arguments
abbrev pub is_other : Tree → Bool
is_other (lit b) = false
is_other (var x w) = true
is_other (one op a) = false
is_other (two op a b) = false
is_other (three op a b c) = true
is_other (sel f i) = true

-- the top of a term
abbrev pub IsShape : {I : Type 0} → (I → Tree) → Tree → Shape I → Type 0
IsShape tree t (shape.Lit b) = t ≡ lit b
IsShape tree t (shape.One op a) = t ≡ one op (tree a)
IsShape tree t (shape.Two op a b) = t ≡ two op (tree a) (tree b)
IsShape tree t shape.Other = is_other t ≡ true

-- a right side
abbrev pub right_of : {I : Type 0} → (I → Tree) → code.Right I → Right
right_of tree (right.Given i) = given (tree i)
right_of tree (right.Literal b) = given (lit b)
right_of tree (right.One op a) = made_one op (given (tree a))
right_of tree (right.Two op a b) = made_two op (given (tree a)) (given (tree b))
right_of tree (right.WithLiteral op a c) = made_two op (given (tree a)) (given (lit c))
right_of tree (right.PlusLiteral op a b c) = made_two Add (made_two op (given (tree a)) (given (tree b))) (given (lit c))
