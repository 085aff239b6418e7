-- A map from names to what they stand for.
use Rattle.std.specs.Prelude.{◌≡◌, ℕ, List, Option, Some, None, bytes_eq, if◌then◌else◌}
use Rattle.std.specs.BTreeMap.{BTreeMap, get_by}
use Rattle.std.specs.Cmp.Lexicographic.{slice_cmp}
use Rattle.std.specs.Global.{Vec}
use Rattle.std.specs.Ordering.{nat_cmp}
use Rattle.sail_syntax.specs.Tree.{Text}
use Rattle.sail_names.specs.declared.things.Named.{Named}
use Rattle.sail_names.specs.declared.things.Thing.{Thing}
use Rattle.sail_names.specs.Things.{find_thing}

-- what a map has at a name
abbrev pub thing_at : Text → BTreeMap (Vec ℕ) Thing → Option Thing
thing_at x things = get_by (λ k. slice_cmp nat_cmp x k.items) things

-- this, or else that
abbrev pub or_thing : Option Thing → Option Thing → Option Thing
or_thing None other = other
or_thing (Some t) other = Some t

-- a thing, where the name is this one
abbrev pub thing_for : Text → Thing → Text → Option Thing
thing_for name t x = if bytes_eq name x then Some t else None

-- the map has just these names, of two with one name the first
abbrev pub IsMapOf : List Named → BTreeMap (Vec ℕ) Thing → Type 0
IsMapOf names things = (x : Text) → thing_at x things ≡ find_thing x names

-- what a name stands for in a map, or else in a list
abbrev pub reached : Text → BTreeMap (Vec ℕ) Thing → List Named → Option Thing
reached x things names = or_thing (thing_at x things) (find_thing x names)

-- these names are behind those that another map has
abbrev pub Adds : List Named → BTreeMap (Vec ℕ) Thing → BTreeMap (Vec ℕ) Thing → Type 0
Adds names old new = (x : Text) → thing_at x new ≡ reached x old names
