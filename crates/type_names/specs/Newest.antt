-- The places of the newest locals of their names.
use Rattle.std.specs.Prelude.{◌≡◌, ℕ, List, [], ◌∷◌, length, Option, Some, None, bytes_eq, if◌then◌else◌, ⊤}
use Rattle.std.specs.BTreeMap.{BTreeMap, get_by}
use Rattle.std.specs.Cmp.Lexicographic.{slice_cmp}
use Rattle.std.specs.Ordering.{nat_cmp}
use Rattle.std.specs.Borrow.{Bor}
use Rattle.sail_syntax.specs.Tree.{Text}
use Rattle.type_names.specs.declared.locals.Kept.{Kept}

-- what a map has at a name
abbrev pub newest_at : Text → BTreeMap (Bor (List ℕ)) ℕ → Option ℕ
newest_at x newest = get_by (λ k. slice_cmp nat_cmp x k.now) newest

-- the place of the newest of a name among locals with the newest first, counted from the oldest
abbrev pub newest_place : Text → List Kept → Option ℕ
newest_place x [] = None
newest_place x (k ∷ older) = if bytes_eq k.local.name.now x then Some (length older) else newest_place x older

-- each has the place of the one that it hides
abbrev pub AreChained : List Kept → Type 0
AreChained [] = ⊤
AreChained (k ∷ older) = (k.hides ≡ newest_place k.local.name.now older) × AreChained older
