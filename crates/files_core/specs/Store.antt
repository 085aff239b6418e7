-- A store: a finite map from names to the bytes of files. A name is its UTF-8 bytes.
use Rattle.std.specs.Prelude.{ℕ, List, Option}
use Rattle.std.specs.Ordering.{nat_cmp}
use Rattle.std.specs.Cmp.Lexicographic.{slice_cmp}
use Rattle.std.specs.FinMap.{FinMap, get, from_entries}

abbrev pub Store : Type 0
Store = FinMap (slice_cmp nat_cmp) (List ℕ)

-- the bytes of the file of that name
abbrev pub file_of : Store → List ℕ → Option (List ℕ)
file_of store name = get store name

-- files by their names; of two with one name the first counts
abbrev pub store_of : List (List ℕ × List ℕ) → Store
store_of files = from_entries files
