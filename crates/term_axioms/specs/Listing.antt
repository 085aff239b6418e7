-- Lists of the numbers of interned terms.
use Rattle.std.specs.Prelude.{ℕ, List, map}
use Rattle.term_tree.specs.Terms.{Tree}
use Rattle.term_arena.specs.Nodes.{Node, term_at}

-- the terms of numbers
abbrev pub trees : List Node → List ℕ → List Tree
trees nodes ids = map (term_at nodes) ids
