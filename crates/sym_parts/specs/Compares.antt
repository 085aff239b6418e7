-- How two values compare, over every list that keeps the nodes.
use Rattle.std.specs.Prelude.{◌≡◌, Bool, List}
use Rattle.bv_bits.specs.declared.Op.{Op}
use Rattle.term_tree.specs.Terms.{two}
use Rattle.term_arena.specs.Nodes.{Node, Keeps}
use Rattle.term_arena.specs.Answers.{id_term}
use Rattle.sym_rules.specs.Values.{SymValue}
use Rattle.sym_rules.specs.Trees.{Telling, making}
use Rattle.sym_rules.specs.Operators.{known_truth, as_truth, compares_same}
use Rattle.sym_parts.specs.declared.comparing.Compared.{Compared}
use Rattle.sym_parts.specs.declared.comparing.Compared.TheVariants as compared
use Rattle.sym_parts.specs.declared.values.SymValue as code
use Rattle.sym_parts.specs.Views.{value_in}

-- what is made of two terms of one width by eq or ne, or what is known of the values, as it is or turned round
abbrev pub made_so : Op → (Bool → Bool) → List Node → Compared → Telling SymValue
made_so o turn last (compared.Terms a b) = as_truth (making (two o (id_term last a) (id_term last b)))
made_so o turn last (compared.Known same) = known_truth (turn same)

-- the values compare so
abbrev pub ComparesSo : List Node → code.SymValue → code.SymValue → Compared → Type 0
ComparesSo nodes a b c = (o : Op) (turn : Bool → Bool) (last : List Node) → Keeps nodes last → compares_same o turn (value_in last a) (value_in last b) ≡ made_so o turn last c
