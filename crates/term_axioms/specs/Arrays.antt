-- The numbers of array variables.
use Rattle.std.specs.Prelude.{ℕ, List, Option, Some, None, cond, bytes_eq}
use Rattle.std.specs.List.{list_any}
use Rattle.indexmap.specs.IndexMap.{get_by}
use Rattle.term_tree.specs.Terms.{Text, Tree}
use Rattle.axiom_trees.specs.Numbered.{is_byte_of, array_in}
use Rattle.term_axioms.specs.declared.arrays.Arrays.{Arrays}

-- the number of an array variable, if it has one
abbrev pub number_for : Arrays → Text → Option ℕ
number_for m f = get_by (λ k. bytes_eq f k.items) m.numbers

-- the place of the first byte of an array variable, if there is one
abbrev pub first_byte : List Tree → Text → Option ℕ
first_byte ts f = cond (list_any (is_byte_of f) ts) (Some (array_in ts f)) None
