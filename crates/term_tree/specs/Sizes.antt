-- The size of a term.
use Rattle.std.specs.Prelude.{ℕ, ◌+◌}
use Rattle.term_tree.specs.Terms.{Tree, lit, var, one, two, three, sel}

-- the number of operators, variables and literals of a term
abbrev pub size : Tree → ℕ
size (lit b) = 1
size (var x width) = 1
size (one op a) = 1 + size a
size (two op a b) = 1 + (size a + size b)
size (three op a b c) = 1 + (size a + (size b + size c))
size (sel f i) = 1 + size i
