-- The places of names in a list, and a map that finds them.
use Rattle.std.specs.Prelude.{ℕ, ◌+◌, List, [], ◌∷◌, Option, Some, None, bytes_eq, if◌then◌else◌}
use Rattle.std.specs.BTreeMap.{BTreeMap, get_by}
use Rattle.std.specs.Cmp.Lexicographic.{slice_cmp}
use Rattle.std.specs.Global.{Vec}
use Rattle.std.specs.Ordering.{nat_cmp}
use Rattle.sail_syntax.specs.Tree.{Text}
use Rattle.type_rules.specs.declared.scope.Entry.{Entry}

-- what a map has at a name
abbrev pub place_at : Text → BTreeMap (Vec ℕ) ℕ → Option ℕ
place_at x places = get_by (λ k. slice_cmp nat_cmp x k.items) places

-- the place behind
abbrev pub later : Option ℕ → Option ℕ
later None = None
later (Some i) = Some (i + 1)

-- the place of the first entry of a name
abbrev pub first_place : Text → List Entry → Option ℕ
first_place x [] = None
first_place x (e ∷ rest) = if bytes_eq e.name x then Some 0 else later (first_place x rest)

-- this place, or else that one
abbrev pub or_place : Option ℕ → Option ℕ → Option ℕ
or_place None other = other
or_place (Some i) other = Some i

-- a place, where the name is this one
abbrev pub place_for : Text → ℕ → Text → Option ℕ
place_for name place x = if bytes_eq name x then Some place else None
